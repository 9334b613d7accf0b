-- Rows of any kind seen alike: by their load dates, their weight and their number.
use Rattle.std.specs.List.{list_all}
use Rattle.std.specs.Prelude.{◌≡◌, ℕ, ◌+◌, nat_le, Bool, true, false, List, [], map, All}
use Rattle.dv_records.specs.declared.stores.Rows.{Rows}
use Rattle.dv_records.specs.declared.stores.Rows.TheVariants.{Hubs, Links, Sats, Multis, Statuses, Effects, Pits, Bridges}
use Rattle.dv_records.specs.declared.stores.TableRows.{TableRows}
use Rattle.dv_records.specs.Stores.{row_count, rows_then}
use Rattle.dv_records.specs.Weights.{rows_weight}

-- the load dates of rows, row by row; the rows of a snapshot have none
abbrev pub loads_of : Rows → List ℕ
loads_of (Hubs rows) = map (λ row. row.load) rows
loads_of (Links rows) = map (λ row. row.load) rows
loads_of (Sats rows) = map (λ row. row.load) rows
loads_of (Multis rows) = map (λ row. row.load) rows
loads_of (Statuses rows) = map (λ row. row.load) rows
loads_of (Effects rows) = map (λ row. row.load) rows
loads_of (Pits rows) = []
loads_of (Bridges rows) = []

-- no row is later than a date
abbrev pub is_up_to : ℕ → Rows → Bool
is_up_to date rows = list_all (λ load. nat_le load date) (loads_of rows)

-- no row of the tables is later than a date
abbrev pub are_up_to : ℕ → List TableRows → Bool
are_up_to date tables = list_all (λ entry. is_up_to date entry.rows) tables

-- all rows have a load date
abbrev pub AreOfLoad : ℕ → Rows → Type 0
AreOfLoad date rows = All (λ load. load ≡ date) (loads_of rows)

-- ---- rows of one kind

-- whether two lists of rows are of one kind
abbrev pub are_of_one_kind : Rows → Rows → Bool
are_of_one_kind (Hubs a) (Hubs b) = true
are_of_one_kind (Links a) (Links b) = true
are_of_one_kind (Sats a) (Sats b) = true
are_of_one_kind (Multis a) (Multis b) = true
are_of_one_kind (Statuses a) (Statuses b) = true
are_of_one_kind (Effects a) (Effects b) = true
are_of_one_kind (Pits a) (Pits b) = true
are_of_one_kind (Bridges a) (Bridges b) = true
are_of_one_kind a b = false

-- rows behind others weigh, and count, what the two lists do together
pub record AddsUp (a b : Rows) : Type 0 where
  pub weight : rows_weight (rows_then a b) ≡ rows_weight a + rows_weight b
  pub count : row_count (rows_then a b) ≡ row_count a + row_count b
