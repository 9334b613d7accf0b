-- What reading a table of a keeper comes to: its rows, or so many of its first rows that they weigh too much.
use Rattle.std.specs.Prelude.{◌≡◌, ◌<◌, ◌≤◌, ◌⊎◌, ◌+◌, ℕ, IsTrue, true, false}
use Rattle.dv_catalog.specs.declared.tables.TableId.{TableId}
use Rattle.dv_records.specs.declared.stores.Rows.{Rows as TableRows}
use Rattle.dv_records.specs.Limits.{most_weight}
use Rattle.dv_records.specs.Stores.{is_of_kind, page, row_count}
use Rattle.dv_records.specs.Weights.{rows_weight}
use Rattle.dv_store_rules.specs.declared.pages.Page.{Page}
use Rattle.dv_store_rules.specs.declared.pages.Page.TheVariants.{Foreign, Last, More}
use Rattle.dv_store_rules.specs.declared.pages.Read.{Read}
use Rattle.dv_store_rules.specs.declared.pages.Read.TheVariants.{OtherKind, Rows}

-- ---- a table

-- rows are a front of those that are stored: the first of them, one or more, which weigh too much with what was read
-- before
pub record IsHeavyFront (weight : ℕ) (stored rows : TableRows) : Type 0 where
  pub first : rows ≡ page 0 (row_count rows) stored
  pub some : 0 < row_count rows
  pub heavy : most_weight < weight + rows_weight rows

-- what was read of the rows that are stored for a table, where what was read before weighs so much: all of them or such a
-- front, where they are of the table's kind; and that the first is of another kind, where they are
abbrev pub TellsRows : TableId → ℕ → TableRows → Read → Type 0
TellsRows table weight stored (Rows rows) = IsTrue (is_of_kind table stored) × ((rows ≡ stored) ⊎ IsHeavyFront weight stored rows)
TellsRows table weight stored (OtherKind row) = (is_of_kind table stored ≡ false) × (0 < row_count stored) × (row ≡ 1)

-- rows that were read are of the table's kind; rows of another kind are counted from 1
abbrev pub IsOfTable : TableId → Read → Type 0
IsOfTable table (Rows rows) = IsTrue (is_of_kind table rows)
IsOfTable table (OtherKind row) = 0 < row

-- ---- one page

-- the rows read so far are the first of those that are stored; none is read where these are of another kind
pub record AreFirst (table : TableId) (stored rows : TableRows) : Type 0 where
  pub own : is_of_kind table stored ≡ true → rows ≡ page 0 (row_count rows) stored
  pub other : is_of_kind table stored ≡ false → row_count rows ≡ 0

-- what a page adds to the rows read before it, where all that was read before it weighs so much: rows, with which all
-- weighs this, and no more than it may; or the last ones
abbrev pub IsGrown : ℕ → TableRows → TableRows → Page → Type 0
IsGrown weight before rows (More sum) = (sum + rows_weight before ≡ weight + rows_weight rows) × (weight < sum) × (sum ≤ most_weight)
IsGrown weight before rows Last = Unit
IsGrown weight before rows Foreign = Unit

-- what a page tells of the rows that are stored: that there may be more; that there are no more, or that all that was read
-- weighs too much; or that they are of another kind
abbrev pub TellsPage : TableId → ℕ → TableRows → TableRows → TableRows → Page → Type 0
TellsPage table weight stored before rows (More sum) = AreFirst table stored rows
TellsPage table weight stored before rows Last =
    IsTrue (is_of_kind table stored) × ((rows ≡ stored) ⊎ ((rows ≡ page 0 (row_count rows) stored) × (0 < row_count rows) × (most_weight + rows_weight before < weight + rows_weight rows)))
TellsPage table weight stored before rows Foreign = (is_of_kind table stored ≡ false) × (0 < row_count stored) × (row_count rows ≡ 0)
