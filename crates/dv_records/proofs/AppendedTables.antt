-- The tables after rows are put at the end of one, by the place of its entry.
use Rattle.dv_records.proofs.Vocabulary.{Bool, Contains, Contains-cons_here, Contains-cons_there, List, Rows, Some, TableId, TableRows, [], ap, appended_to, by_place, false, get_or, position, refl, rows_then, slice_set, table_eq, ℕ, ◌++◌, ◌∷◌, ◌≡◌}

module _ (table : TableId) (rows : Rows) where
  abbrev pub is_its : TableRows → Bool
  is_its entry = table_eq entry.table table

  -- where no entry is the table's, it gets one at the end
  pub appended_to-none : (tables : List TableRows) → ((entry : TableRows) → Contains tables entry → is_its entry ≡ false) → appended_to table rows tables ≡ tables ++ record { table = table; rows = rows } ∷ []
  appended_to-none [] none = refl
  appended_to-none (entry ∷ tables) none =
      rw (none entry (Contains-cons_here entry tables)) (ap (λ l. entry ∷ l) (appended_to-none tables (λ other has. none other (Contains-cons_there entry tables other has))))

  -- the entry at this place is the table's, and grows
  abbrev pub Grows : List TableRows → ℕ → Type 0
  Grows tables at = (entry : TableRows) → entry ≡ get_or tables at entry → slice_set tables at (record entry { rows = rows_then entry.rows rows }) ≡ appended_to table rows tables

  pub grows : (tables : List TableRows) (at : ℕ) → position is_its tables ≡ Some at → Grows tables at
  grows = by_place is_its Grows (λ first tables t entry is. rw (t, is) refl) (λ first tables n t later entry is. rw t (ap (λ l. first ∷ l) (later entry is)))
