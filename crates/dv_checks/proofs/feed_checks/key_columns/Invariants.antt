use Rattle.dv_checks.proofs.Vocabulary.{flat_map, map, take, ◌≡◌}
use Rattle.dv_checks.proofs.feed_checks.key_columns.Given as goal

abbrev pub invariant-loop-list : goal.invariant-loop-list
invariant-loop-list l = map (λ column. column.now) l.columns.items ≡ flat_map (λ columns. columns) (take l.list-index l.keys)
