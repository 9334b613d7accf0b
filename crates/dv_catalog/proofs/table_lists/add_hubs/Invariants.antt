use Rattle.dv_catalog.proofs.Vocabulary.{Hub, map, range_with_len, ◌++◌, ◌≡◌}
use Rattle.dv_catalog.proofs.table_lists.add_hubs.Given as goal

abbrev pub invariant-loop-n : goal.invariant-loop-n
invariant-loop-n l = l.tables ≡ l.initial.tables ++ map (λ n. Hub n) (range_with_len 0 l.n)
