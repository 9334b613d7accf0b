-- The tables of a mapping as they are read of a store, which has the rows of tables.
use Rattle.dv_restore.proofs.Vocabulary.{Backwards, Bool, Contains, Contains-cons_cases, Contains-cons_here, Contains-cons_there, Contains-nil, HasTables, Hashes, IsVaultOf, List, Mapping, Store, TableId, TableRows, Window, [], and_parts, ap, are_apart, backwards, drop, false, false≢true}
use Rattle.dv_restore.proofs.Vocabulary.{has_table, inl, inr, list_any, map, map-append, map-id, map-map, not, not-true, partial, refl, rows_in, same_table, some_passes_at, stored_entries, subst, sym, table_entry, table_eq, table_eq-itself, tables, take, take-append-drop, true, vault}
use Rattle.dv_restore.proofs.Vocabulary.{vault_apart, with_newest, ℕ, ◌++◌, ◌||◌, ◌∙◌, ◌∷◌, ◌≡◌}

-- ---- entries

-- the rows of a table of which there is one
rows_at : (entries : List TableRows) → are_apart entries ≡ true → (entry : TableRows) → Contains entries entry → rows_in entry.table entries ≡ entry.rows
rows_at [] apart entry has = Contains-nil entry has
rows_at (first ∷ entries) apart entry has =
    let (alone, rest) = and_parts (not (list_any (λ other. table_eq other.table first.table) entries)) (are_apart entries) apart in
    elim (Contains-cons_cases first entries entry has) [
      | inl same ↦ ap (λ (entry : TableRows). rows_in entry.table (first ∷ entries)) (sym same) ∙ here ∙ ap (λ (entry : TableRows). entry.rows) same
      | inr later ↦ by alone later (table_eq first.table entry.table) refl (rows_at entries rest entry later)
    ]
  where
    here : rows_in first.table (first ∷ entries) ≡ first.rows
    here = rw (table_eq-itself first.table) refl

    by : not (list_any (λ other. table_eq other.table first.table) entries) ≡ true → Contains entries entry → (b : Bool) → table_eq first.table entry.table ≡ b → rows_in entry.table entries ≡ entry.rows
        → rows_in entry.table (first ∷ entries) ≡ entry.rows
    by alone later true e rows =
        let itself : table_eq entry.table first.table ≡ true = ap (table_eq entry.table) (same_table first.table entry.table e) ∙ table_eq-itself entry.table in
        absurd (false≢true (sym (not-true _ alone) ∙ some_passes_at (λ (other : TableRows). table_eq other.table first.table) entries entry later itself))
    by alone later false e rows = rw e rows

-- what is read of a store of their tables is the entries
read_each : (store : Store) (entries : List TableRows) → ((entry : TableRows) → Contains entries entry → rows_in entry.table store.tables ≡ entry.rows) → stored_entries store (map (λ (entry : TableRows). entry.table) entries) ≡ entries
read_each store [] each = refl
read_each store (entry ∷ entries) each =
    let here = each entry (Contains-cons_here entry entries) in
    let rest = read_each store entries (λ other has. each other (Contains-cons_there entry entries other has)) in
    λ i. record { table = entry.table; rows = here i } ∷ rest i

-- where they are those of a mapping, this is what the tables of the mapping are read as
read_all : (mapping : Mapping) (store : Store) (entries : List TableRows) → IsVaultOf mapping entries → HasTables store entries → stored_entries store (tables mapping) ≡ entries
read_all mapping store entries are has =
    ap (stored_entries store) (sym are) ∙ read_each store entries (λ entry there. has entry.table ∙ rows_at entries (vault_apart mapping entries are) entry there)

-- the tables of entries
entries_of : (mapping : Mapping) (hashes : Hashes) (after : Backwards) (ids : List TableId) → map (λ (entry : TableRows). entry.table) (map (table_entry mapping hashes after) ids) ≡ ids
entries_of mapping hashes after ids = map-map (λ (entry : TableRows). entry.table) (table_entry mapping hashes after) ids ∙ map-id ids

module _ (mapping : Mapping) (hashes : Hashes) (store : Store) (sealed : List Window) where
  -- no window is open
  pub read_vault : HasTables store (vault mapping hashes sealed) → stored_entries store (tables mapping) ≡ vault mapping hashes sealed
  read_vault = read_all mapping store (vault mapping hashes sealed) (entries_of mapping hashes (backwards sealed) (tables mapping))

  module _ (window : Window) (k : ℕ) where
    abbrev newer : Backwards
    newer = with_newest window (backwards sealed)

    partial_tables : IsVaultOf mapping (partial mapping hashes sealed window k)
    partial_tables =
        let first = entries_of mapping hashes newer (take k (tables mapping)) in
        let rest = entries_of mapping hashes (backwards sealed) (drop k (tables mapping)) in
        map-append (λ (entry : TableRows). entry.table) (map (table_entry mapping hashes newer) (take k (tables mapping))) (map (table_entry mapping hashes (backwards sealed)) (drop k (tables mapping)))
        ∙ (λ i. first i ++ rest i) ∙ take-append-drop k (tables mapping)

    -- one is, and the first tables have its batches
    pub read_partial : HasTables store (partial mapping hashes sealed window k) → stored_entries store (tables mapping) ≡ partial mapping hashes sealed window k
    read_partial = read_all mapping store (partial mapping hashes sealed window k) partial_tables

-- ---- a table that was read

-- has the rows that the store has
pub read_rows : (store : Store) (ids : List TableId) (table : TableId) → has_table table (stored_entries store ids) ≡ true → rows_in table store.tables ≡ rows_in table (stored_entries store ids)
read_rows store [] table has = absurd (false≢true has)
read_rows store (id ∷ ids) table has = by (table_eq id table) refl has (read_rows store ids table)
  where
    by : (b : Bool) → table_eq id table ≡ b → (table_eq id table || has_table table (stored_entries store ids)) ≡ true → (has_table table (stored_entries store ids) ≡ true → rows_in table store.tables ≡ rows_in table (stored_entries store ids))
        → rows_in table store.tables ≡ rows_in table (stored_entries store (id ∷ ids))
    by true e has later = rw e (ap (λ id. rows_in id store.tables) (sym (same_table id table e)))
    by false e has later = rw e (later (rw e at has))

-- so the store has the rows of what was read
pub rows_read : (mapping : Mapping) (store : Store) (entries there : List TableRows) → entries ≡ stored_entries store (tables mapping) → entries ≡ there → (table : TableId) → has_table table there ≡ true
    → rows_in table store.tables ≡ rows_in table there
rows_read mapping store entries there read are table =
    subst (λ (all : List TableRows). has_table table all ≡ true → rows_in table store.tables ≡ rows_in table all) (sym read ∙ are) (read_rows store (tables mapping) table)
