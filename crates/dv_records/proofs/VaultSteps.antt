-- What a window more adds to the vault.
use Rattle.dv_records.proofs.Vocabulary.{AddsUp, Backwards, Hashes, List, Mapping, Rows, TableId, Window, [], ap, are_of_one_kind, arith, backwards, common_steps, map, nat_tests, refl, reverse-append, rows_then, rows_weight, sum_by, sum_by-cons, table_after, table_batch, table_entry, tables}
use Rattle.dv_records.proofs.Vocabulary.{true, vault, vault_weight, with_newest, ℕ, ◌++◌, ◌+◌, ◌∙◌, ◌∷◌, ◌≡◌}
use Rattle.dv_catalog.specs.declared.tables.TableId.TheVariants.{Hub}

-- a table after one window more is the table before it, followed by the window's batch
pub table_after-newest : (mapping : Mapping) (hashes : Hashes) (older : Backwards) (newest : Window) (table : TableId)
    → table_after mapping hashes (with_newest newest older) table ≡ rows_then (table_after mapping hashes older table) (table_batch mapping hashes table older newest)
table_after-newest mapping hashes older newest (Hub hub) = refl
table_after-newest mapping hashes older newest table = refl

-- so the vault of windows and one more is, table by table, the vault of the windows followed by the batch of the one
pub vault-push : (mapping : Mapping) (hashes : Hashes) (sealed : List Window) (next : Window)
    → vault mapping hashes (sealed ++ next ∷ []) ≡ map (λ table. record { table = table; rows = rows_then (table_after mapping hashes (backwards sealed) table) (table_batch mapping hashes table (backwards sealed) next) }) (tables mapping)
vault-push mapping hashes sealed next = grind (arith, common_steps, nat_tests)

-- a measure of rows that adds up over the lists of one kind
module _ (measure : Rows → ℕ) (mapping : Mapping) (hashes : Hashes) (older : Backwards) (newest : Window)
    (adds : (table : TableId) → measure (rows_then (table_after mapping hashes older table) (table_batch mapping hashes table older newest))
    ≡ measure (table_after mapping hashes older table) + measure (table_batch mapping hashes table older newest)) where
  -- adds up over tables
  pub grown : (all : List TableId)
      → sum_by (λ entry. measure entry.rows) (map (table_entry mapping hashes (with_newest newest older)) all)
      ≡ sum_by (λ entry. measure entry.rows) (map (table_entry mapping hashes older) all) + sum_by (λ table. measure (table_batch mapping hashes table older newest)) all
  grown [] = refl
  grown (table ∷ all) =
      let after = sum_by-cons (λ entry. measure entry.rows) (table_entry mapping hashes (with_newest newest older) table) (map (table_entry mapping hashes (with_newest newest older)) all) in
      let before = sum_by-cons (λ entry. measure entry.rows) (table_entry mapping hashes older table) (map (table_entry mapping hashes older) all) in
      let batches = sum_by-cons (λ table. measure (table_batch mapping hashes table older newest)) table all in
      let one = ap measure (table_after-newest mapping hashes older newest table) ∙ adds table in
      let rest = grown all in
      omega (arith, after, before, batches, one, rest)

pub rows_add_up : (a b : Rows) → are_of_one_kind a b ≡ true → AddsUp a b
rows_add_up a b h1 = grind (arith, common_steps, nat_tests)

-- a table's batch is of the table's kind
one_kind : (mapping : Mapping) (hashes : Hashes) (older : Backwards) (newest : Window) (table : TableId) → are_of_one_kind (table_after mapping hashes older table) (table_batch mapping hashes table older newest) ≡ true
one_kind mapping hashes older newest (Hub hub) = refl
one_kind mapping hashes older newest table = refl

pub batch_adds : (mapping : Mapping) (hashes : Hashes) (older : Backwards) (newest : Window) (table : TableId) → AddsUp (table_after mapping hashes older table) (table_batch mapping hashes table older newest)
batch_adds mapping hashes older newest table = rows_add_up (table_after mapping hashes older table) (table_batch mapping hashes table older newest) (one_kind mapping hashes older newest table)

pub weight-push : (mapping : Mapping) (hashes : Hashes) (sealed : List Window) (next : Window)
    → vault_weight mapping hashes (sealed ++ next ∷ []) ≡ vault_weight mapping hashes sealed + sum_by (λ table. rows_weight (table_batch mapping hashes table (backwards sealed) next)) (tables mapping)
weight-push mapping hashes sealed next =
    rw (reverse-append sealed (next ∷ [])) (grown rows_weight mapping hashes (backwards sealed) next (λ table. (batch_adds mapping hashes (backwards sealed) next table).weight) (tables mapping))
