use Rattle.dv_window.proofs.Vocabulary.{List, SnapId, ap, bridge_ids, err_from_is_err_and, length, ◌++◌, ◌∙◌}
use Rattle.dv_window.proofs.SnapTables.{apart, same_fault}
use Rattle.dv_window.proofs.snapshot_tables.snapshot_tables.Goals as goal

pub returns-in_err-push_bridges-clause-too_large : goal.returns-in_err-push_bridges-clause-too_large
returns-in_err-push_bridges-clause-too_large c = λ path is.
    let p = err_from_is_err_and c.from_residual-in_err-push_bridges.result c.from_residual-in_err-push_bridges.ensures.1 in
    c.in_err-push_bridges.ensures.too_large path (same_fault _ _ (rw (p.1, p.2) at is))

pub returns-clause-apart : goal.returns-clause-apart
returns-clause-apart c =
    let mapping = c.args.vault.now.mapping in
    apart (length mapping.hubs) (length mapping.paths) c.push_bridges.new.tables
    (c.in_ok-push_bridges.ensures.ids ∙ ap (λ (ids : List SnapId). ids ++ bridge_ids (length mapping.paths)) c.in_ok-tables.ensures.ids)
