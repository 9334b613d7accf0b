-- With no windows each table is empty, and the windows are valid.
use Rattle.dv_records.proofs.Vocabulary.{Bool, Hashes, List, Mapping, None, Parent, TableId, TableRows, [], and_from, ap, are_windows_valid, arith, backwards, false, first_collision, is_none, map, most_weight, nat_le, no_rows, parents, refl, rows_in, rows_weight, rules, sum_by-cons, table_after}
use Rattle.dv_records.proofs.Vocabulary.{table_entry, table_eq, tables, tables_weight, true, ◌∙◌, ◌∷◌, ◌≡◌}
use Rattle.dv_records.proofs.WellFormedTables.{same_table}
use Rattle.dv_catalog.specs.declared.tables.TableId.TheVariants as ids

no_collision : (mapping : Mapping) (hashes : Hashes) (all : List Parent) → first_collision mapping hashes [] all ≡ None
no_collision mapping hashes [] = refl
no_collision mapping hashes (parent ∷ all) = no_collision mapping hashes all

no_weight : (mapping : Mapping) (hashes : Hashes) (id : TableId) → rows_weight (table_after mapping hashes (backwards []) id) ≡ 0
no_weight mapping hashes id = search rules

no_weights : (mapping : Mapping) (hashes : Hashes) (all : List TableId) → tables_weight (map (table_entry mapping hashes (backwards [])) all) ≡ 0
no_weights mapping hashes [] = refl
no_weights mapping hashes (id ∷ all) =
    let first = no_weight mapping hashes id in
    let rest = no_weights mapping hashes all in
    let both = sum_by-cons (λ (entry : TableRows). rows_weight entry.rows) (table_entry mapping hashes (backwards []) id) (map (table_entry mapping hashes (backwards [])) all) in
    omega (arith, first, rest, both)

pub none_valid : (mapping : Mapping) (hashes : Hashes) → are_windows_valid mapping hashes [] ≡ true
none_valid mapping hashes =
    and_from _ _ (and_from _ _ (ap is_none (no_collision mapping hashes (parents mapping))) (ap (λ n. nat_le n most_weight) (no_weights mapping hashes (tables mapping)))) refl

pub after_none : (mapping : Mapping) (hashes : Hashes) (id : TableId) → table_after mapping hashes (backwards []) id ≡ no_rows id
after_none mapping hashes id = search rules

pub none_in : (mapping : Mapping) (hashes : Hashes) (all : List TableId) (table : TableId) → rows_in table (map (table_entry mapping hashes (backwards [])) all) ≡ no_rows table
none_in mapping hashes [] table = refl
none_in mapping hashes (id ∷ all) table = by (table_eq id table) refl (none_in mapping hashes all table)
  where
    by : (b : Bool) → table_eq id table ≡ b → rows_in table (map (table_entry mapping hashes (backwards [])) all) ≡ no_rows table → rows_in table (map (table_entry mapping hashes (backwards [])) (id ∷ all)) ≡ no_rows table
    by true e later = rw e (after_none mapping hashes id ∙ ap no_rows (same_table id table e))
    by false e later = rw e later
