-- The contents of a hub's feeds, as the code has them.
use Rattle.std.specs.Prelude.{ℕ, ◌==◌, List, [], ◌∷◌, Option, None, Some, All, find, flat_map, if◌then◌else◌, length, map, slice_get}
use Rattle.std.specs.List.{enumerate_from}
use Rattle.std.specs.List.Sorted.{IsStrictlySortedBy}
use Rattle.std.specs.Option.{is_some, option_map, option_map_or}
use Rattle.std.specs.Ordering.{is_eq, is_lt}
use Rattle.dv_text.specs.declared.rows.Key.{Key}
use Rattle.dv_text.specs.declared.rows.NRow.{NRow}
use Rattle.dv_text.specs.Keys.{refs_eq}
use Rattle.dv_text.specs.Orders.{key_cmp, refs_cmp, row_cmp}
use Rattle.dv_text.specs.Sorting.{sorted_by}
use Rattle.dv_catalog.specs.declared.entries.FeedDef.{FeedDef}
use Rattle.dv_records.specs.declared.mart_rows.HubCell.{HubCell}
use Rattle.dv_records.specs.declared.mart_rows.HubMartRow.{HubMartRow}
use Rattle.dv_records.specs.Marts as marts
use Rattle.dv_mart.specs.declared.hub_columns.HubColumn.{HubColumn}
use Rattle.dv_mart.specs.declared.hub_contents.FeedRows.{FeedRows}
use Rattle.dv_print.specs.HubFeeds.{told}

-- a feed with its place, and its rows
abbrev pub told_rows : FeedRows → (ℕ × FeedDef) × List NRow
told_rows one = (told one.feed, one.rows)

-- the keys of rows, as often as they have them
abbrev pub keys_of : List FeedRows → List Key
keys_of contents = flat_map (λ one. flat_map (λ row. row.refs) one.rows) contents

-- the rows of each feed stand in order
abbrev pub AreInOrder : List FeedRows → Type 0
AreInOrder contents = All (λ one. IsStrictlySortedBy row_cmp one.rows) contents

-- the cell of a key for a feed with these rows
abbrev pub cell_of : Key → FeedRows → HubCell
cell_of key one = marts.hub_cell (λ feed. one.rows) key (told one.feed)

-- the row of a key, with a cell for each feed
abbrev pub row_of : List FeedRows → Key → HubMartRow
row_of contents key = record { key = key; cells = map (cell_of key) contents }

-- the rows of contents: one for each key, in order
abbrev pub rows_of : List FeedRows → List HubMartRow
rows_of contents = map (row_of contents) (sorted_by key_cmp (keys_of contents))

-- ---- the rows of a content beside keys, which stand in order as its rows do

-- the rows without those at the beginning that are of a lesser key
abbrev pub not_before : Key → List NRow → List NRow
not_before key [] = []
not_before key (row ∷ rows) = if is_lt (refs_cmp row.refs (key ∷ [])) then not_before key rows else row ∷ rows

-- the first row, if it is of a key
abbrev pub first_of : Key → List NRow → Option NRow
first_of key [] = None
first_of key (row ∷ rows) = if is_eq (refs_cmp row.refs (key ∷ [])) then Some row else None

-- of which feed a column is, and its rows
abbrev pub column_told : HubColumn → (ℕ × FeedDef) × List (Option NRow)
column_told column = (told column.feed, map (option_map (λ row. row.now)) column.found.items)

-- the column of a content: of each key the first of its rows
abbrev pub column_of : List Key → FeedRows → (ℕ × FeedDef) × List (Option NRow)
column_of keys one = (told one.feed, map (λ key. find (λ row. refs_eq row.refs (key ∷ [])) one.rows) keys)

-- ---- the cells of columns at a place

-- the row at a place of a column, if there is one
abbrev pub row_at : ℕ → HubColumn → Option NRow
row_at place column = option_map_or (λ row. option_map (λ row. row.now) row) (slice_get column.found.items place) None

-- the attributes that are shown of a row of a feed: as many blanks where there is no row, and none of a feed with a sub,
-- which may have several rows of a key
abbrev pub shown_attrs : FeedDef → Option NRow → List (List ℕ)
shown_attrs feed row = if length feed.sub == 0 then marts.attrs_or_blanks (length feed.attrs) row else []

-- the cell at a place of a column
abbrev pub cell_at : ℕ → HubColumn → HubCell
cell_at place column = record {
  present = is_some (row_at place column);
  attrs = shown_attrs column.feed.definition.now (row_at place column);
}

-- the row of a key, of which columns have the cells at a place
abbrev pub lent_row : Key → List HubColumn → ℕ → HubMartRow
lent_row key columns place = record { key = key; cells = map (cell_at place) columns }

-- the rows of keys, of which columns have the cells
abbrev pub lent_rows : List HubColumn → List Key → List HubMartRow
lent_rows columns keys = map (λ (place, key). lent_row key columns place) (enumerate_from 0 keys)
