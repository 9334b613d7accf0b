-- The first of a list that passes a test is taken out at its place.
use Rattle.dv_records.proofs.Vocabulary.{Bool, List, Some, ap, by_place, position, refl, remove, without_first, ℕ, ◌∷◌, ◌≡◌}

pub first_removed : {X : Type 0} (test : X → Bool) (xs : List X) (at : ℕ) → position test xs ≡ Some at → remove xs at ≡ without_first test xs
first_removed test = by_place test (λ xs at. remove xs at ≡ without_first test xs) (λ x xs t. rw t refl) (λ x xs n t rest. rw t (ap (λ l. x ∷ l) rest))
