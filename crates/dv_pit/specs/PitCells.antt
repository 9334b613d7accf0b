-- Rows of a point-in-time table that get cells.
use Rattle.std.specs.Prelude.{ℕ, ◌++◌, List}
use Rattle.dv_records.specs.declared.snapshots.PitCell.{PitCell}
use Rattle.dv_records.specs.declared.snapshots.PitRow.{PitRow}

-- a row with more cells, those of its key
abbrev pub with_cells : (List ℕ → List PitCell) → PitRow → PitRow
with_cells cells row = record row { cells = row.cells ++ cells row.key }
