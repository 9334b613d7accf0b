-- The point-in-time table of a hub by the raw tables alone.
use Rattle.std.specs.Prelude.{ℕ, ◌==◌, List, map, length, if◌then◌else◌}
use Rattle.dv_catalog.specs.declared.entries.FeedDef.{FeedDef}
use Rattle.dv_catalog.specs.Entries.{Mapping}
use Rattle.dv_records.specs.declared.snapshots.PitCell.{PitCell}
use Rattle.dv_records.specs.declared.snapshots.PitRow.{PitRow}
use Rattle.dv_records.specs.declared.stores.TableRows.{TableRows}
use Rattle.dv_records.specs.Marts.{hub_feeds}
use Rattle.dv_records.specs.ReadBack.{hub_rows_in, multi_rows_in, sat_rows_in, status_rows_in}
use Rattle.dv_pit.specs.PitRows.{bare_cell, known_keys, multi_cell, plain_cell}

-- the cell of a feed for a key, by the feed's tables
abbrev pub cell_read : List TableRows → ℕ → List ℕ → ℕ × FeedDef → PitCell
cell_read tables date key feed =
    if length feed.1.attrs == 0 then bare_cell (status_rows_in feed.0 tables) date key
    else if length feed.1.sub == 0 then plain_cell (sat_rows_in feed.0 tables) (status_rows_in feed.0 tables) date key
    else multi_cell (multi_rows_in feed.0 tables) (status_rows_in feed.0 tables) date key

-- a key's row, with a cell for each feed of the hub in declared order
abbrev pub row_read : Mapping → List TableRows → ℕ → ℕ → List ℕ → PitRow
row_read mapping tables hub date key = record { key = key; cells = map (cell_read tables date key) (hub_feeds mapping hub) }

-- a row for each key that the hub's table has at the date, by hash key
abbrev pub pit_read : Mapping → List TableRows → ℕ → ℕ → List PitRow
pit_read mapping tables hub date = map (row_read mapping tables hub date) (known_keys (hub_rows_in hub tables) date)
