use Rattle.dv_index.proofs.Vocabulary.{numbers_of, range_with_len, ◌≡◌}
use Rattle.dv_index.proofs.askings.places_of.Given as goal

-- the places so far
abbrev pub invariant-loop-number : goal.invariant-loop-number
invariant-loop-number l = numbers_of l.made.items ≡ range_with_len 0 l.number
