-- Held lists: those under one hash key are one, and those of rows are found with the rows.
use Rattle.dv_hub_link.proofs.Vocabulary.{Bool, Contains, Hashed, Key, List, Place, [], and_parts, are_held_apart, are_in_load_order, are_parents_apart, are_placed_rows, bytes_eq, bytes_eq-Decides, false, false≢true, has_row_under, is_held, list_any-map, list_under, map, not, not-true}
use Rattle.dv_hub_link.proofs.Vocabulary.{option_map, refl, row_under, some_passes_at, sym, true, ℕ, ◌∙◌, ◌∷◌, ◌≡◌}
use Rattle.dv_hub_link.proofs.Alike.{one_alike}

-- of lists whose hash keys are apart, those with one hash key are one
pub one_held : (held : List Hashed) → are_held_apart held ≡ true → (a b : Hashed) → Contains held a → Contains held b → a.digest ≡ b.digest → a ≡ b
one_held = one_alike are_held_apart (λ (a b : Hashed). a.digest ≡ b.digest) (λ a b same. sym same) (λ list held apart.
    let parts = and_parts (not (is_held list.digest held)) (are_held_apart held) apart in (
      λ other has same.
          false≢true (sym (not-true (is_held list.digest held) parts.0) ∙ some_passes_at (λ (h : Hashed). bytes_eq h.digest list.digest) held other has ((bytes_eq-Decides other.digest list.digest).1 same)),
      parts.1,
    ))

-- ---- the lists of rows

module _ {R : Type 0} (place : R → Place) (refs_of : R → List Key) where
  abbrev pub held_of : R → Hashed
  held_of row = record { digest = (place row).parent; refs = refs_of row }

  -- a list is held exactly where there is a row
  pub is_held_rows : (digest : List ℕ) (rows : List R) → is_held digest (map held_of rows) ≡ has_row_under place digest rows
  is_held_rows digest rows = list_any-map (λ (h : Hashed). bytes_eq h.digest digest) held_of rows

  pub list_under_rows : (digest : List ℕ) (rows : List R) → list_under digest (map held_of rows) ≡ option_map refs_of (row_under place digest rows)
  list_under_rows digest [] = refl
  list_under_rows digest (row ∷ rows) = by (bytes_eq (place row).parent digest) refl (list_under_rows digest rows)
    where
      by : (t : Bool) → bytes_eq (place row).parent digest ≡ t → list_under digest (map held_of rows) ≡ option_map refs_of (row_under place digest rows)
          → list_under digest (map held_of (row ∷ rows)) ≡ option_map refs_of (row_under place digest (row ∷ rows))
      by true e rest = rw e refl
      by false e rest = rw e rest

  pub held_apart_rows : (rows : List R) → are_placed_rows place rows ≡ true → are_held_apart (map held_of rows) ≡ true
  held_apart_rows rows placed = same rows ∙ (and_parts (are_parents_apart place rows) (are_in_load_order place rows) placed).0
    where
      same : (rows : List R) → are_held_apart (map held_of rows) ≡ are_parents_apart place rows
      same [] = refl
      same (row ∷ rows) = let here = is_held_rows (place row).parent rows in let rest = same rows in rw (here, rest) refl
