-- Rows of which each has a digest of its own: their look-up, and what all rows of a table keep to.
use Rattle.std.specs.Prelude.{ℕ, Bool, true, not, ◌&&◌, List, [], ◌∷◌, Option, find}
use Rattle.std.specs.List.{list_any}
use Rattle.std.specs.Str.{bytes_eq}
use Rattle.dv_index.specs.Places.{Place, are_in_load_order}

-- the row under a digest
abbrev pub row_under : {R : Type 0} → (R → Place) → List ℕ → List R → Option R
row_under place digest rows = find (λ row. bytes_eq (place row).parent digest) rows

-- whether a row is under a digest
abbrev pub has_row_under : {R : Type 0} → (R → Place) → List ℕ → List R → Bool
has_row_under place digest rows = list_any (λ row. bytes_eq (place row).parent digest) rows

-- no two rows are under one digest
abbrev pub are_parents_apart : {R : Type 0} → (R → Place) → List R → Bool
are_parents_apart place [] = true
are_parents_apart place (row ∷ rows) = not (has_row_under place (place row).parent rows) && are_parents_apart place rows

-- no two rows are under one digest, and the load dates do not fall
abbrev pub are_placed_rows : {R : Type 0} → (R → Place) → List R → Bool
are_placed_rows place rows = are_parents_apart place rows && are_in_load_order place rows
