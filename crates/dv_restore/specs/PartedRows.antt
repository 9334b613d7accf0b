-- Rows in two by their load date: those of other load dates than one, and those of it.
use Rattle.std.specs.List.{list_all}
use Rattle.std.specs.Prelude.{◌≡◌, ℕ, ◌==◌, ◌++◌, not, Bool, List, filter, map, nat_le}
use Rattle.dv_index.specs.Places.{Place}

-- a row has a load date
abbrev pub is_of_load : {R : Type 0} → (R → Place) → ℕ → R → Bool
is_of_load place load row = (place row).load == load

-- it has another one
abbrev pub is_of_other : {R : Type 0} → (R → Place) → ℕ → R → Bool
is_of_other place load row = not ((place row).load == load)

-- no row is later than a load date
abbrev pub are_rows_up_to : {R : Type 0} → (R → Place) → ℕ → List R → Bool
are_rows_up_to place date rows = list_all (λ load. nat_le load date) (map (λ row. (place row).load) rows)

-- rows in two: those of other load dates, and behind them those of one
pub record ArePartedRows {R : Type 0} (place : R → Place) (load : ℕ) (rows sealed opened : List R) : Type 0 where
  pub sealed_are : sealed ≡ filter (is_of_other place load) rows
  pub opened_are : opened ≡ filter (is_of_load place load) rows
  pub whole : rows ≡ sealed ++ opened
