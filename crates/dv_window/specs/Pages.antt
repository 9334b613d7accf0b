-- What the pages of a stored table of a snapshot tell of its rows, where they are held to a form.
use Rattle.std.specs.Prelude.{◌≡◌, ◌<◌, ◌≤◌, ◌⊎◌, ◌==◌, ℕ, Bool, true, false, List, None, Option, Some, if◌then◌else◌}
use Rattle.dv_records.specs.declared.stores.Rows.{Rows as TableRows}
use Rattle.dv_records.specs.Stores.{page, row_count, rows_then}
use Rattle.dv_window.specs.declared.pages.Read.{Read}
use Rattle.dv_window.specs.declared.pages.Read.TheVariants.{Flawed, Rows}
use Rattle.dv_window.specs.StoredRows.{first_flaw, own_rows}

-- what was read of rows: all of them, of which none is flawed; or the number of the first that is
abbrev pub TellsRows : {R : Type 0} → (TableRows → Option (List R)) → (R → Bool) → TableRows → Read R → Type 0
TellsRows own is_sound rows (Rows read) = (first_flaw own is_sound rows ≡ None) × (read ≡ own_rows (own rows))
TellsRows own is_sound rows (Flawed row) = first_flaw own is_sound rows ≡ Some row

-- rows are these, or both have none
abbrev pub AreAlike : TableRows → TableRows → Type 0
AreAlike rows others = (rows ≡ others) ⊎ ((row_count rows ≡ 0) × (row_count others ≡ 0))

-- the rows read so far are the first of those that are stored, and no more than are asked for
pub record AreFirst (most : ℕ) (stored rows : TableRows) : Type 0 where
  pub first : AreAlike rows (page 0 (row_count rows) stored)
  pub within : row_count rows ≤ most

-- the rows of a page behind those read before it, or in the place of none
abbrev pub joined : TableRows → TableRows → TableRows
joined rows more = if row_count rows == 0 then more else rows_then rows more

-- what a page tells of the rows that are stored, with those read so far: that there may be more, or that all are read
-- that are asked for
abbrev pub TellsPage : ℕ → TableRows → TableRows → Bool → Type 0
TellsPage most stored rows true = AreFirst most stored rows
TellsPage most stored rows false = AreAlike rows (page 0 most stored)

-- a page behind which there may be more has rows, and fewer were read before it than are asked for
abbrev pub IsGrown : ℕ → TableRows → TableRows → Type 0
IsGrown most before rows = (row_count before < row_count rows) × (row_count before < most)

-- a flawed row is counted from 1
abbrev pub CountsFlaw : {R : Type 0} → Read R → Type 0
CountsFlaw (Rows read) = Unit {0}
CountsFlaw (Flawed row) = 1 ≤ row
