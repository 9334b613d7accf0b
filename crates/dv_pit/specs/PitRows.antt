-- What the rows of raw tables say in a point-in-time table at a date.
use Rattle.std.specs.Prelude.{ℕ, nat_le, List, [], ◌∷◌, ◌++◌, None, filter, map, slice_get}
use Rattle.std.specs.Option.{option_map}
use Rattle.dv_text.specs.Sorting.{sorted_by}
use Rattle.dv_records.specs.declared.raw_rows.HubRow.{HubRow}
use Rattle.dv_records.specs.declared.raw_rows.MultiRow.{MultiRow}
use Rattle.dv_records.specs.declared.raw_rows.SatRow.{SatRow}
use Rattle.dv_records.specs.declared.raw_rows.StatusRow.{StatusRow}
use Rattle.dv_records.specs.declared.snapshots.PitCell.{PitCell}
use Rattle.dv_records.specs.declared.snapshots.PitRow.{PitRow}
use Rattle.dv_records.specs.Batches.{digest_cmp}
use Rattle.dv_records.specs.Reconstruction.{all_valid_at, present_at, valid_at}

-- the hash keys of a hub's rows that are not later than a date, in order
abbrev pub known_keys : List HubRow → ℕ → List (List ℕ)
known_keys rows date = sorted_by digest_cmp (map (λ row. row.digest) (filter (λ row. nat_le row.load date) rows))

-- a row without cells
abbrev pub bare_row : List ℕ → PitRow
bare_row key = record { key = key; cells = [] }

-- a row with one cell more, that of its key
abbrev pub with_cell : (List ℕ → PitCell) → PitRow → PitRow
with_cell cell row = record row { cells = row.cells ++ cell row.key ∷ [] }

-- a cell of a feed with a satellite: the load date of the row that is valid at the date, and whether the key is present
abbrev pub plain_cell : List SatRow → List StatusRow → ℕ → List ℕ → PitCell
plain_cell rows statuses date key = record {
  load = option_map (λ row. row.load) (valid_at rows key date);
  present = present_at statuses key date;
}

-- a cell of a feed with a multi-active satellite: the rows that are valid at the date have one load date
abbrev pub multi_cell : List MultiRow → List StatusRow → ℕ → List ℕ → PitCell
multi_cell rows statuses date key = record {
  load = option_map (λ row. row.load) (slice_get (all_valid_at rows key date) 0);
  present = present_at statuses key date;
}

-- a cell of a feed without attributes, which has no satellite
abbrev pub bare_cell : List StatusRow → ℕ → List ℕ → PitCell
bare_cell statuses date key = record { load = None; present = present_at statuses key date }
