-- The rows that the open window has in a table, by the table's place in table order.
use Rattle.dv_window.proofs.Vocabulary.{ArePartsOf, Begun, Bool, Bor, Fits, IfSome, List, None, Option, Part, RawVault, Rows, Some, TableId, TableRows, [], absent_rows, ap, by_place, entries_with, false, has_table, is_of_kind, is_placed, is_some, opened_in, option_map, position, refl}
use Rattle.dv_window.proofs.Vocabulary.{rows_behind, rows_in, rows_there, same_Some, same_table, slice_get, subst, suc, sym, table_eq, true, with_has, ℕ, ◌∙◌, ◌∷◌, ◌≡◌}

-- ---- a table at its place

module _ (table : TableId) where
  abbrev pub is_its : TableRows → Bool
  is_its entry = table_eq entry.table table

  -- its rows with the batches behind those of the tables
  abbrev HasBatch : List TableRows → ℕ → Type 0
  HasBatch entries place = (batches : List Rows) → rows_in table (entries_with entries batches) ≡ rows_behind (rows_in table entries) (slice_get batches place)

  pub batch_behind : (entries : List TableRows) (place : ℕ) → position is_its entries ≡ Some place → HasBatch entries place
  batch_behind = by_place is_its HasBatch here later
    where
      here : (entry : TableRows) (entries : List TableRows) → is_its entry ≡ true → HasBatch (entry ∷ entries) 0
      here entry entries is [] = refl
      here entry entries is (rows ∷ batches) = rw is refl

      later : (entry : TableRows) (entries : List TableRows) (n : ℕ) → is_its entry ≡ false → HasBatch entries n → HasBatch (entry ∷ entries) (suc n)
      later entry entries n is behind [] = refl
      later entry entries n is behind (rows ∷ batches) = rw is (behind batches)

  -- a table that is not among them has none
  pub none_behind : (entries : List TableRows) (batches : List Rows) → position is_its entries ≡ None → rows_in table (entries_with entries batches) ≡ rows_in table entries
  none_behind entries batches e =
      let absent : has_table table entries ≡ false = sym (is_placed is_its entries) ∙ ap is_some e in
      absent_rows table (entries_with entries batches) (with_has table entries batches ∙ absent) ∙ sym (absent_rows table entries absent)

  -- what is there at its place is of its kind
  abbrev HasKind : List TableRows → ℕ → Type 0
  HasKind entries place = (parts : List Part) (more : Rows) → ArePartsOf entries parts → slice_get (opened_in parts) place ≡ Some more → is_of_kind table more ≡ true

  pub part_kind : (entries : List TableRows) (place : ℕ) → position is_its entries ≡ Some place → HasKind entries place
  part_kind = by_place is_its HasKind here later
    where
      here : (entry : TableRows) (entries : List TableRows) → is_its entry ≡ true → HasKind (entry ∷ entries) 0
      here entry entries is [] more are got = cc
      here entry entries is (part ∷ parts) more (first, rest) got =
          subst (λ (rows : Rows). is_of_kind table rows ≡ true) (same_Some part.opened more got) (subst (λ id. is_of_kind id part.opened ≡ true) (same_table entry.table table is) first.opened)

      later : (entry : TableRows) (entries : List TableRows) (n : ℕ) → is_its entry ≡ false → HasKind entries n → HasKind (entry ∷ entries) (suc n)
      later entry entries n is behind [] more are got = cc
      later entry entries n is behind (part ∷ parts) more (first, rest) got = behind parts more rest got

-- ---- the rows that an open window has in a table

pub none_begun : (table : TableId) (raw : RawVault) (begun : Option Begun) (result : Option (Bor Rows)) → None ≡ position (is_its table) raw.tables → result ≡ None
    → rows_in table (rows_there raw begun) ≡ rows_behind (rows_in table raw.tables) (option_map (λ rows. rows.now) result)
none_begun table raw begun None absent none = by begun
  where
    by : (begun : Option Begun) → rows_in table (rows_there raw begun) ≡ rows_in table raw.tables
    by None = refl
    by (Some b) = none_behind table raw.tables (opened_in b.parts.items) (sym absent)
none_begun table raw begun (Some rows) absent none = cc

module _ (table : TableId) (raw : RawVault) (begun : Begun) (place : ℕ) (placed : Some place ≡ position (is_its table) raw.tables) (result : Option (Bor Rows))
    (got : option_map (λ rows. rows.now) result ≡ slice_get (opened_in begun.parts.items) place) where
  pub begun_rows : rows_in table (rows_there raw (Some begun)) ≡ rows_behind (rows_in table raw.tables) (option_map (λ rows. rows.now) result)
  begun_rows = batch_behind table raw.tables place (sym placed) (opened_in begun.parts.items) ∙ ap (rows_behind (rows_in table raw.tables)) (sym got)

  pub begun_kind : Fits raw begun → IfSome result (λ rows. is_of_kind table rows.now ≡ true)
  begun_kind may = by result got
    where
      by : (result : Option (Bor Rows)) → option_map (λ rows. rows.now) result ≡ slice_get (opened_in begun.parts.items) place → IfSome result (λ rows. is_of_kind table rows.now ≡ true)
      by None got = tt
      by (Some rows) got = part_kind table raw.tables place (sym placed) begun.parts.items rows.now may.parts (sym got)
