-- Rows of a table's kind that are put at its end leave the tables well formed.
use Rattle.dv_records.proofs.Vocabulary.{Bool, List, Rows, TableId, TableRows, [], and_from, and_parts, appended_to, are_apart, arith, common_steps, eq-eqb, eqb-true, false, has_kind, have_kinds, is_of_kind, list_any, nat_tests, not, refl, rows_in, rows_then, rules, table_eq, true, ◌&&◌, ◌∙◌}
use Rattle.dv_records.proofs.Vocabulary.{◌∷◌, ◌≡◌}
use Rattle.dv_catalog.specs.declared.tables.TableId.TheVariants.{Hub}

pub same_table : (a b : TableId) → table_eq a b ≡ true → a ≡ b
same_table a b h1 = search (rules, eqb-true)

pub table_eq-itself : (table : TableId) → table_eq table table ≡ true
table_eq-itself (Hub n) = eq-eqb n n refl
table_eq-itself table = grind (arith, nat_tests)

table_eq-sym : (a b : TableId) → table_eq a b ≡ table_eq b a
table_eq-sym a b = grind (arith, common_steps, nat_tests)

-- rows keep their kind where others come behind them
kind_then : (table : TableId) (a b : Rows) → is_of_kind table a ≡ true → is_of_kind table (rows_then a b) ≡ true
kind_then table a b h1 = search (rules)

-- rows of a table's kind make an entry that has it
has_kind-of : (entry : TableRows) → is_of_kind entry.table entry.rows ≡ true → has_kind entry ≡ true
has_kind-of entry e = search (rules)

module _ (table : TableId) (rows : Rows) where
  -- a table other than this one is there as often as before
  others : (other : TableId) → table_eq table other ≡ false → (tables : List TableRows) → list_any (λ entry. table_eq entry.table other) (appended_to table rows tables) ≡ list_any (λ entry. table_eq entry.table other) tables
  others other apart [] = rw apart refl
  others other apart (entry ∷ tables) = search (rules, others other apart tables)

  are_apart-appended_to : (tables : List TableRows) → are_apart (appended_to table rows tables) ≡ are_apart tables
  are_apart-appended_to [] = refl
  are_apart-appended_to (entry ∷ tables) = by (table_eq entry.table table) refl (are_apart-appended_to tables)
    where
      by : (b : Bool) → table_eq entry.table table ≡ b → are_apart (appended_to table rows tables) ≡ are_apart tables
          → are_apart (appended_to table rows (entry ∷ tables)) ≡ (not (list_any (λ other. table_eq other.table entry.table) tables) && are_apart tables)
      by true t later = rw t refl
      by false t later =
          let apart = table_eq-sym table entry.table ∙ t in
          rw (t, others entry.table apart tables, later) refl

  have_kinds-appended_to : (tables : List TableRows) → is_of_kind table rows ≡ true → is_of_kind table (rows_in table tables) ≡ true → have_kinds tables ≡ true → have_kinds (appended_to table rows tables) ≡ true
  have_kinds-appended_to [] given stored all = and_from _ true (has_kind-of (record { table = table; rows = rows }) given) refl
  have_kinds-appended_to (entry ∷ tables) given stored all = grind (arith, common_steps, and_parts, same_table, and_from, has_kind-of, kind_then, have_kinds-appended_to tables given)

  pub well_formed-appended_to : (tables : List TableRows) → is_of_kind table rows ≡ true → is_of_kind table (rows_in table tables) ≡ true → (are_apart tables && have_kinds tables) ≡ true
      → (are_apart (appended_to table rows tables) && have_kinds (appended_to table rows tables)) ≡ true
  well_formed-appended_to tables given stored both = search (rules, and_parts, and_from, are_apart-appended_to, have_kinds-appended_to)
