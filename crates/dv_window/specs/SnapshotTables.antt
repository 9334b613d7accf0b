-- The tables of a snapshot, kind by kind, and the path that is too large for one.
use Rattle.std.specs.Prelude.{ℕ, List, Option, length, map, position}
use Rattle.std.specs.List.{range_with_len}
use Rattle.dv_text.specs.declared.rows.Window.{Window}
use Rattle.dv_text.specs.Keys.{Hashes}
use Rattle.dv_catalog.specs.Entries.{Mapping}
use Rattle.dv_records.specs.declared.snapshots.SnapId.{SnapId}
use Rattle.dv_records.specs.declared.snapshots.SnapId.TheVariants.{Pit, Bridge}
use Rattle.dv_records.specs.declared.snapshots.SnapTable.{SnapTable}
use Rattle.dv_records.specs.declared.stores.Rows.TheVariants.{Pits, Bridges}
use Rattle.dv_records.specs.Snapshots.{bridge, pit}
use Rattle.dv_records.specs.Steps.{is_too_large}

-- the point-in-time table of a hub at a date
abbrev pub pit_table : Mapping → Hashes → List Window → ℕ → ℕ → SnapTable
pit_table mapping hashes sealed date hub = record { id = Pit hub; rows = Pits (pit mapping hashes sealed hub date) }

-- the bridge of a path at a date
abbrev pub bridge_table : Mapping → Hashes → List Window → ℕ → ℕ → SnapTable
bridge_table mapping hashes sealed date path = record { id = Bridge path; rows = Bridges (bridge mapping hashes sealed path date) }

-- the point-in-time tables of all hubs, in declared order
abbrev pub pit_tables : Mapping → Hashes → List Window → ℕ → List SnapTable
pit_tables mapping hashes sealed date = map (pit_table mapping hashes sealed date) (range_with_len 0 (length mapping.hubs))

-- the bridges of all paths, in declared order
abbrev pub bridge_tables : Mapping → Hashes → List Window → ℕ → List SnapTable
bridge_tables mapping hashes sealed date = map (bridge_table mapping hashes sealed date) (range_with_len 0 (length mapping.paths))

-- which tables these are
abbrev pub ids_of : List SnapTable → List SnapId
ids_of tables = map (λ table. table.id) tables

-- the point-in-time tables of so many hubs, and the bridges of so many paths
abbrev pub pit_ids : ℕ → List SnapId
pit_ids hubs = map (λ hub. Pit hub) (range_with_len 0 hubs)

abbrev pub bridge_ids : ℕ → List SnapId
bridge_ids paths = map (λ path. Bridge path) (range_with_len 0 paths)

-- the place of the first path of which some first steps give too many rows
abbrev pub first_large : Mapping → List Window → ℕ → Option ℕ
first_large mapping sealed date = position (is_too_large mapping sealed date) mapping.paths
