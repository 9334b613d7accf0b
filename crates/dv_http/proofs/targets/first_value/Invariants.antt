use Rattle.dv_http.proofs.Vocabulary.{first_of, length, pairs_left, raw_pairs, ◌≡◌}
use Rattle.dv_http.proofs.targets.first_value.Given as goal

abbrev pub decreases-pairs : goal.decreases-pairs
decreases-pairs l = length (pairs_left l.pairs)

abbrev pub invariant-pairs : goal.invariant-pairs
invariant-pairs l = first_of l.name (pairs_left l.pairs) ≡ first_of l.name (raw_pairs l.query)
