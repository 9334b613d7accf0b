-- Where tests in order have no answer, none of them has one.
use Rattle.dv_catalog.proofs.Vocabulary.{List, None, Option, [], first_of, or_none, ◌∷◌, ◌≡◌}

abbrev pub AllNone : {R : Type 0} → List (Option R) → Type 0
AllNone [] = Unit {0}
AllNone (test ∷ tests) = (test ≡ None) × AllNone tests

pub all_none : {R : Type 0} (tests : List (Option R)) → first_of tests ≡ None → AllNone tests
all_none [] none = tt
all_none (test ∷ tests) none = let (here, later) = or_none test (first_of tests) none in (here, all_none tests later)
