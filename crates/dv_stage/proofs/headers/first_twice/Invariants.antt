use Rattle.dv_stage.proofs.Vocabulary.{List, again_after, bytes_eq, contains, drop, is_among, nat_cmp, slice_cmp, text_twice, ℕ, ◌≡◌}
use Rattle.dv_stage.proofs.headers.first_twice.Given as goal

-- the set has the names so far
abbrev pub invariant-loop-name : goal.invariant-loop-name
invariant-loop-name l =
    (seen : List (List ℕ))
    × ((name : List ℕ) → contains (slice_cmp nat_cmp) l.earlier name ≡ is_among seen name)
    × (again_after bytes_eq seen (drop l.name-index l.names) ≡ text_twice l.names)
