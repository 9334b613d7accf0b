use Rattle.dv_checks.proofs.Vocabulary.{map, take, ◌++◌, ◌≡◌}
use Rattle.dv_checks.proofs.feed_checks.add_all.Given as goal

abbrev pub invariant-loop-column : goal.invariant-loop-column
invariant-loop-column l =
    map (λ column. column.now) l.columns.items ≡ map (λ column. column.now) l.initial.columns.items ++ take l.column-index l.column-items
