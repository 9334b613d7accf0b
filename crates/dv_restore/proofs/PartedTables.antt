-- Tables in two by a load date, one table after the other, and what the two parts weigh.
use Rattle.dv_restore.proofs.Vocabulary.{All, All-head, All-nil, All-push, All-tail, AreParted, EndsAt, IsParted, List, Rows, Table, TableRows, [], and_parts, ap, are_of_one_kind, are_up_to, arith, entry_before, entry_of, is_up_to, map, map-append, refl, rows_add_up, rows_at, rows_before}
use Rattle.dv_restore.proofs.Vocabulary.{rows_weight, rules, subst, sum_by, sum_by-cons, sym, tables_weight, true, ℕ, ◌++◌, ◌+◌, ◌∙◌, ◌∷◌, ◌≡◌}

module _ (date : ℕ) where
  pub none_parted : AreParted date [] [] []
  none_parted = record { sealed_are = refl; opened_are = refl; whole = All-nil (λ (entry : TableRows). EndsAt date entry.rows) }

  -- one table more
  pub parted_more : (tables sealed more : List Table) (table part : Table) (opened after : List Rows) (rows : Rows) → more ≡ sealed ++ part ∷ [] → after ≡ opened ++ rows ∷ []
      → AreParted date (map entry_of tables) (map entry_of sealed) opened → IsParted date (entry_of table) (entry_of part) rows
      → AreParted date (map entry_of (tables ++ table ∷ [])) (map entry_of more) after
  parted_more tables sealed more table part opened after rows more_is after_is so_far parted =
      let entries : map entry_of (tables ++ table ∷ []) ≡ map entry_of tables ++ entry_of table ∷ [] = map-append entry_of tables (table ∷ []) in
      record {
        sealed_are =
            ap (map entry_of) more_is ∙ map-append entry_of sealed (part ∷ [])
            ∙ (λ i. so_far.sealed_are i ++ parted.sealed_is i ∷ [])
            ∙ sym (map-append (entry_before date) (map entry_of tables) (entry_of table ∷ [])) ∙ ap (map (entry_before date)) (sym entries);
        opened_are =
            after_is
            ∙ (λ i. so_far.opened_are i ++ parted.opened_is i ∷ [])
            ∙ sym (map-append (λ (entry : TableRows). rows_at date entry.rows) (map entry_of tables) (entry_of table ∷ [])) ∙ ap (map (λ (entry : TableRows). rows_at date entry.rows)) (sym entries);
        whole = subst (All (λ (entry : TableRows). EndsAt date entry.rows)) (sym entries) (All-push (λ (entry : TableRows). EndsAt date entry.rows) (map entry_of tables) (entry_of table) so_far.whole parted.whole);
      }

  -- the two parts of rows are of one kind
  pub one_kind : (rows : Rows) → are_of_one_kind (rows_before date rows) (rows_at date rows) ≡ true
  one_kind rows = search rules

  weights_all : (entries : List TableRows) → All (λ entry. EndsAt date entry.rows) entries
      → tables_weight entries ≡ tables_weight (map (entry_before date) entries) + sum_by rows_weight (map (λ entry. rows_at date entry.rows) entries)
  weights_all [] whole = refl
  weights_all (entry ∷ entries) whole =
      let here : rows_weight entry.rows ≡ rows_weight (rows_before date entry.rows) + rows_weight (rows_at date entry.rows) =
      ap rows_weight (All-head (λ (entry : TableRows). EndsAt date entry.rows) entry entries whole) ∙ (rows_add_up (rows_before date entry.rows) (rows_at date entry.rows) (one_kind entry.rows)).weight in
      let rest = weights_all entries (All-tail (λ (entry : TableRows). EndsAt date entry.rows) entry entries whole) in
      let all = sum_by-cons (λ (entry : TableRows). rows_weight entry.rows) entry entries in
      let before = sum_by-cons (λ (entry : TableRows). rows_weight entry.rows) (entry_before date entry) (map (entry_before date) entries) in
      let after = sum_by-cons rows_weight (rows_at date entry.rows) (map (λ (entry : TableRows). rows_at date entry.rows) entries) in
      omega (arith, here, rest, all, before, after)

  -- they weigh together what the tables weigh
  pub weights_add_up : (entries sealed : List TableRows) (opened : List Rows) → AreParted date entries sealed opened → tables_weight entries ≡ tables_weight sealed + sum_by rows_weight opened
  weights_add_up entries sealed opened parted = weights_all entries parted.whole ∙ sym (λ i. tables_weight (parted.sealed_are i) + sum_by rows_weight (parted.opened_are i))

-- the first of tables that are up to a date, and the rest
pub first_up_to : (date : ℕ) (tables rest : List Table) (table : Table) → tables ≡ table ∷ rest → are_up_to date (map entry_of tables) ≡ true → (is_up_to date (entry_of table).rows ≡ true) × (are_up_to date (map entry_of rest) ≡ true)
first_up_to date tables rest table is up = and_parts (is_up_to date (entry_of table).rows) (are_up_to date (map entry_of rest)) (subst (λ l. are_up_to date (map entry_of l) ≡ true) is up)
