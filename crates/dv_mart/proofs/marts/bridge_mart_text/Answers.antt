use Rattle.dv_mart.proofs.Vocabulary.{Err, ap, err_from_is_err_and}
use Rattle.dv_mart.proofs.{PathMarts.fault_told, PathTexts.bridge_too_large}
use Rattle.dv_mart.proofs.marts.bridge_mart_text.Goals as goal

pub returns-in_err-rows-clause-too_large : goal.returns-in_err-rows-clause-too_large
returns-in_err-rows-clause-too_large c large hashes sealed zeros has =
    let p = err_from_is_err_and c.from_residual.result c.from_residual.ensures.1 in
    let told = fault_told c.from_residual.result c.in_err-rows.field-0.0 p.0 p.1 p.2 large in
    bridge_too_large c.args.vault.now c.args.path c.args.date hashes sealed (c.in_err-rows.ensures.too_large (ap Err told) hashes sealed zeros has)
