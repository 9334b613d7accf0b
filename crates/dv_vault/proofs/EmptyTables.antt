-- The vault of no windows.
use Rattle.dv_vault.proofs.Vocabulary.{Hashes, IsVaultOf, List, Mapping, TableId, TableRows, [], after_none, ap, are_empty, are_rows_kept, arith, backwards, map, map-id, map-map, no_rows, refl, rows_weight, sum_by-cons, sym, table_entry, tables, tables_weight, true, ℕ, ◌+◌, ◌∙◌, ◌∷◌, ◌≡◌}
use Rattle.dv_catalog.specs.declared.tables.TableId.TheVariants as ids

pub empty_tables : (all : List TableId) → map (λ (entry : TableRows). entry.table) (map (λ id. record { table = id; rows = no_rows id }) all) ≡ all
empty_tables all = map-map (λ (entry : TableRows). entry.table) (λ id. record { table = id; rows = no_rows id }) all ∙ map-id all

no_weight : (id : TableId) → rows_weight (no_rows id) ≡ 0
no_weight (ids.Hub n) = refl
no_weight (ids.Link n) = refl
no_weight (ids.Sat n) = refl
no_weight (ids.Multi n) = refl
no_weight (ids.Status n) = refl
no_weight (ids.Effect n) = refl

pub empty_weight : (all : List TableId) → tables_weight (map (λ id. record { table = id; rows = no_rows id }) all) ≡ 0
empty_weight [] = refl
empty_weight (id ∷ all) =
    sum_by-cons (λ (entry : TableRows). rows_weight entry.rows) (record { table = id; rows = no_rows id }) (map (λ id. record { table = id; rows = no_rows id }) all)
    ∙ no_sum (rows_weight (no_rows id)) (tables_weight (map (λ id. record { table = id; rows = no_rows id }) all)) (no_weight id) (empty_weight all)
  where
    no_sum : (a b : ℕ) → a ≡ 0 → b ≡ 0 → a + b ≡ 0
    no_sum a b first rest = omega (arith, first, rest)

pub empty_all : (all : List TableId) → are_empty (map (λ id. record { table = id; rows = no_rows id }) all) ≡ true
empty_all [] = refl
empty_all (ids.Hub n ∷ all) = empty_all all
empty_all (ids.Link n ∷ all) = empty_all all
empty_all (ids.Sat n ∷ all) = empty_all all
empty_all (ids.Multi n ∷ all) = empty_all all
empty_all (ids.Status n ∷ all) = empty_all all
empty_all (ids.Effect n ∷ all) = empty_all all

-- the vault of no windows has them
first_entry : (mapping : Mapping) (hashes : Hashes) (id : TableId) → record { table = id; rows = no_rows id } ≡ table_entry mapping hashes (backwards []) id
first_entry mapping hashes id = ap (λ rows. record { table = id; rows = rows }) (sym (after_none mapping hashes id))

pub empty_vault : (mapping : Mapping) (hashes : Hashes) (all : List TableId) → map (λ id. record { table = id; rows = no_rows id }) all ≡ map (table_entry mapping hashes (backwards [])) all
empty_vault mapping hashes [] = refl
empty_vault mapping hashes (id ∷ all) = rw (first_entry mapping hashes id) (ap (λ (rest : List TableRows). table_entry mapping hashes (backwards []) id ∷ rest) (empty_vault mapping hashes all))

-- what a vault keeps to, with no windows
pub new_kept : (mapping : Mapping) (entries : List TableRows) → entries ≡ map (λ id. record { table = id; rows = no_rows id }) (tables mapping)
    → IsVaultOf mapping entries × (are_rows_kept [] entries ≡ true) × (0 ≡ tables_weight entries)
new_kept mapping entries are = (
  ap (map (λ (entry : TableRows). entry.table)) are ∙ empty_tables (tables mapping),
  ap are_empty are ∙ empty_all (tables mapping),
  sym (ap tables_weight are ∙ empty_weight (tables mapping)),
)
