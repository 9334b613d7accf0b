use Rattle.dv_given.proofs.Vocabulary.{Some, ap, err_from_is_err_and, sym, ◌∙◌}
use Rattle.dv_given.proofs.{ExtractSteps.files_read, ExtractSteps.files_unread, ExtractSteps.manifest_unread, ReadSteps.behind_all, ReadSteps.reads_none}
use Rattle.dv_given.proofs.arrivals.bring.Goals as goal

pub returns-in_err-bytes : goal.returns-in_err-bytes
returns-in_err-bytes g c =
    let p = err_from_is_err_and c.from_residual.result c.from_residual.ensures.1 in
    rw (p.1, p.2) (reads_none (λ files ending ends. manifest_unread files c.args.name.now ending ends) _ _ c.in_err-bytes.ensures)

pub returns : goal.returns
returns g c =
    let reads = c.in_ok-bytes.ensures in
    behind_all _ _ _ _ _ _ reads.kept reads.later
    (λ files told. files_read files c.args.name.now _ (reads.ok files told ∙ ap Some (sym c.items.ensures)))
    (λ files told. files_unread files c.args.name.now _ (reads.ok files told ∙ ap Some (sym c.items.ensures)))
    c.bring_files.result c.bring_files.ensures
