-- The fields of a record by their places.
use Rattle.dv_stage.proofs.Vocabulary.{List, [], field_at, refl, slice_get, suc, zero, ℕ, ◌∷◌, ◌≡◌}

pub field_at-slice_get : (fields : List (List ℕ)) (i : ℕ) → field_at fields i ≡ slice_get fields i
unfolding field_at
field_at-slice_get [] i = refl
field_at-slice_get (f ∷ fields) zero = refl
field_at-slice_get (f ∷ fields) (suc i) = field_at-slice_get fields i

pub ruleset field_facts = (field_at-slice_get)
