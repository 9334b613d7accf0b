-- The tables of a store that are among some entries, and all others.
use Rattle.dv_vault.proofs.Vocabulary.{Bool, HasRows, HasTables, KeepsOthers, List, Rows, Store, TableId, TableRows, [], ap, entries_with, false, has_table, if◌then◌else◌, list_any, list_any-map, map, no_rows, refl, rows_in, sym, table_eq, true, ◌||◌, ◌∙◌, ◌∷◌, ◌≡◌}

-- ---- the same tables

pub same_tables : (entries : List TableRows) (batches : List Rows) → map (λ (entry : TableRows). entry.table) (entries_with entries batches) ≡ map (λ (entry : TableRows). entry.table) entries
same_tables [] batches = refl
same_tables (entry ∷ entries) [] = refl
same_tables (entry ∷ entries) (rows ∷ batches) = ap (λ rest. entry.table ∷ rest) (same_tables entries batches)

same_has : (table : TableId) (entries entries' : List TableRows) → map (λ (entry : TableRows). entry.table) entries' ≡ map (λ (entry : TableRows). entry.table) entries → has_table table entries' ≡ has_table table entries
same_has table entries entries' same =
    sym (list_any-map (λ other. table_eq other table) (λ (entry : TableRows). entry.table) entries')
    ∙ ap (list_any (λ other. table_eq other table)) same
    ∙ list_any-map (λ other. table_eq other table) (λ (entry : TableRows). entry.table) entries

pub with_has : (table : TableId) (entries : List TableRows) (batches : List Rows) → has_table table (entries_with entries batches) ≡ has_table table entries
with_has table entries batches = same_has table entries (entries_with entries batches) (same_tables entries batches)

-- ---- no other tables

-- a table that isn't among them has no rows
none_there : (table : TableId) (entries : List TableRows) → has_table table entries ≡ false → rows_in table entries ≡ no_rows table
none_there table [] none = refl
none_there table (entry ∷ entries) none = by (table_eq entry.table table) none (none_there table entries)
  where
    by : (here : Bool) → (here || has_table table entries) ≡ false → (has_table table entries ≡ false → rows_in table entries ≡ no_rows table) → (if here then entry.rows else rows_in table entries) ≡ no_rows table
    by true none behind = cc
    by false none behind = behind none

-- a store that had rows in these tables and no others has no others after it got other rows in these
pub has_all : (entries entries' : List TableRows) → map (λ (entry : TableRows). entry.table) entries' ≡ map (λ (entry : TableRows). entry.table) entries → (before after : Store)
    → HasTables before entries → HasRows after entries' → KeepsOthers entries' before after → HasTables after entries'
has_all entries entries' same before after had has others table = by (has_table table entries') refl
  where
    by : (among : Bool) → has_table table entries' ≡ among → rows_in table after.tables ≡ rows_in table entries'
    by true is = has table is
    by false is = others table is ∙ had table ∙ none_there table entries (sym (same_has table entries entries' same) ∙ is) ∙ sym (none_there table entries' is)
