-- When no row is later than a date.
use Rattle.dv_records.proofs.Vocabulary.{All-contains, AreOfLoad, Hubs, List, Rows, TableRows, [], all_pass, all_pass_both, all_pass_weaker, ap, are_up_to, arith, eqb-true, inl, is_up_to, le-leb, length, list_all, loads_of, map, map-append, nat_le, nat_tests, refl, row_count, rows_then, rules}
use Rattle.dv_records.proofs.Vocabulary.{true, ℕ, ◌++◌, ◌==◌, ◌∷◌, ◌≡◌, ◌≤◌, ◌⊎◌}

-- the load dates of rows with others behind them are those of both, or of the first alone
loads-then : (rows more : Rows) → (loads_of (rows_then rows more) ≡ loads_of rows ++ loads_of more) ⊎ (loads_of (rows_then rows more) ≡ loads_of rows)
loads-then (Hubs rows) (Hubs more) = inl (map-append (λ row. row.load) rows more)
loads-then rows more = grind (arith, map-append)

no_loads : {R : Type 0} (load_of : R → ℕ) (rows : List R) → (length rows == 0) ≡ true → map load_of rows ≡ []
no_loads load_of [] none = refl
no_loads load_of (row ∷ rows) none = absurd (omega (arith, eqb-true (length (row ∷ rows)) 0 none))

-- no rows have no load dates
pub loads-none : (rows : Rows) → (row_count rows == 0) ≡ true → loads_of rows ≡ []
loads-none rows h1 = search (rules, no_loads)

-- ---- rows

-- no rows are up to any date
pub up_to-none : (date : ℕ) (rows : Rows) → (row_count rows == 0) ≡ true → is_up_to date rows ≡ true
up_to-none date rows none = ap (list_all (λ load. nat_le load date)) (loads-none rows none)

-- rows up to a date are up to a later one
pub up_to-later : (last date : ℕ) (rows : Rows) → last ≤ date → is_up_to last rows ≡ true → is_up_to date rows ≡ true
up_to-later last date rows le = all_pass_weaker (λ load. nat_le load last) (λ load. nat_le load date) (λ load here. grind (arith, nat_tests, here, le)) (loads_of rows)

-- rows of one load date are up to it
pub up_to-of_load : (date : ℕ) (rows : Rows) → AreOfLoad date rows → is_up_to date rows ≡ true
up_to-of_load date rows of = search (rules, all_pass, All-contains, le-leb)

-- rows up to a date with others of the date behind them are up to it
pub up_to-then : (date : ℕ) (rows more : Rows) → is_up_to date rows ≡ true → AreOfLoad date more → is_up_to date (rows_then rows more) ≡ true
up_to-then date rows more up of = search (rules, loads-then, all_pass_both, up_to-of_load)

-- ---- tables

-- tables up to a date are up to a later one
pub all_up_to-later : (last date : ℕ) (tables : List TableRows) → last ≤ date → are_up_to last tables ≡ true → are_up_to date tables ≡ true
all_up_to-later last date tables le = all_pass_weaker (λ entry. is_up_to last entry.rows) (λ entry. is_up_to date entry.rows) (λ entry. up_to-later last date entry.rows le) tables

-- tables without rows are up to any date
pub all_up_to-none : (date : ℕ) (tables : List TableRows) → list_all (λ entry. row_count entry.rows == 0) tables ≡ true → are_up_to date tables ≡ true
all_up_to-none date tables = all_pass_weaker (λ entry. row_count entry.rows == 0) (λ entry. is_up_to date entry.rows) (λ entry. up_to-none date entry.rows) tables
