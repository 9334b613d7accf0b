-- Snapshots: the point-in-time tables and the bridges at a date (Linstedt and Olschimke 2015, chapter 6).
use Rattle.std.specs.Prelude.{ℕ, ◌==◌, nat_le, ◌&&◌, List, [], ◌∷◌, ◌++◌, Option, Some, None, map, reverse, length, filter, sum_by, if◌then◌else◌}
use Rattle.std.specs.List.{flat_map, range_with_len}
use Rattle.std.specs.Ordering.{ordering_then}
use Rattle.std.specs.Cmp.Lexicographic.{slice_cmp}
use Rattle.std.specs.declared.cmp.Ordering.{Ordering}
use Rattle.dv_text.specs.declared.rows.Key.{Key}
use Rattle.dv_text.specs.declared.rows.Window.{Window}
use Rattle.dv_text.specs.Keys.{Hashes}
use Rattle.dv_text.specs.Sorting.{sorted_by}
use Rattle.dv_catalog.specs.declared.entries.FeedDef.{FeedDef}
use Rattle.dv_catalog.specs.declared.entries.Parent.TheVariants.{Hub}
use Rattle.dv_catalog.specs.Entries.{Mapping}
use Rattle.dv_records.specs.declared.mart_rows.PathRow.{PathRow}
use Rattle.dv_records.specs.declared.snapshots.BridgeRow.{BridgeRow}
use Rattle.dv_records.specs.declared.snapshots.PitCell.{PitCell}
use Rattle.dv_records.specs.declared.snapshots.PitRow.{PitRow}
use Rattle.dv_records.specs.declared.snapshots.Snap.{Snap}
use Rattle.dv_records.specs.declared.snapshots.SnapHead.{SnapHead}
use Rattle.dv_records.specs.declared.snapshots.SnapId.TheVariants.{Pit, Bridge}
use Rattle.dv_records.specs.declared.snapshots.SnapTable.{SnapTable}
use Rattle.dv_records.specs.declared.stores.Rows.TheVariants.{Pits, Bridges}
use Rattle.dv_records.specs.Batches.{digest_cmp}
use Rattle.dv_records.specs.Deliveries.{offered_refs}
use Rattle.dv_records.specs.History.{Extract, content, delivers, history, up_to}
use Rattle.dv_records.specs.Hubs.{each_hash}
use Rattle.dv_records.specs.Marts.{hub_feeds, path_mart}
use Rattle.dv_records.specs.Satellites.{is_changed}
use Rattle.dv_records.specs.Stores.{row_count}
use Rattle.dv_records.specs.Weights.{rows_weight}

-- ---- point-in-time tables

-- the load date of the newest extract that adds satellite rows of a reference list; none where no extract does
abbrev pub changed_at : List Extract → List Key → Option ℕ
changed_at [] refs = None
changed_at (newest ∷ older) refs =
    if delivers newest.rows refs && is_changed older newest refs then Some newest.load else changed_at older refs

-- the same of a feed; a feed without attributes has no satellite
abbrev pub sat_load : FeedDef → List Extract → List Key → Option ℕ
sat_load feed extracts refs = if length feed.attrs == 0 then None else changed_at extracts refs

-- a cell: the load date of the feed's satellite row that is valid at the date, and whether the feed's content has the key
abbrev pub pit_cell : List Window → ℕ → List Key → ℕ × FeedDef → PitCell
pit_cell sealed date refs feed = record {
  load = sat_load feed.1 (up_to date (history feed.0 (reverse sealed))) refs;
  present = delivers (content feed.0 sealed date) refs;
}

-- a key's row, with a cell for each feed of the hub in declared order
abbrev pub pit_row : Mapping → Hashes → List Window → ℕ → ℕ → List Key → PitRow
pit_row mapping hashes sealed hub date refs =
    record { key = hashes.hash refs; cells = map (pit_cell sealed date refs) (hub_feeds mapping hub) }

-- by hash key
abbrev pub pit_cmp : PitRow → PitRow → Ordering
pit_cmp a b = digest_cmp a.key b.key

-- the keys that windows up to a date bring to a hub, as often as they bring them
abbrev pub keys_up_to : Mapping → List Window → ℕ → ℕ → List (List Key)
keys_up_to mapping sealed hub date = flat_map (offered_refs mapping (Hub hub)) (filter (λ window. nat_le window.load date) sealed)

-- the point-in-time table of a hub at a date: a row for each key that a window up to the date brings, by hash key
abbrev pub pit : Mapping → Hashes → List Window → ℕ → ℕ → List PitRow
pit mapping hashes sealed hub date = sorted_by pit_cmp (map (pit_row mapping hashes sealed hub date) (keys_up_to mapping sealed hub date))

-- ---- bridges

-- by links, then by hubs
abbrev pub bridge_cmp : BridgeRow → BridgeRow → Ordering
bridge_cmp a b = ordering_then (slice_cmp digest_cmp a.links b.links) (slice_cmp digest_cmp a.hubs b.hubs)

-- the bridge row of a path row: the hash keys of its links, then those of all their hubs, feed by feed
abbrev pub bridge_row : Hashes → PathRow → BridgeRow
bridge_row hashes row = record { links = map hashes.hash row.steps; hubs = flat_map (each_hash hashes) row.steps }

-- the bridge of a path at a date: a row for each row of the path mart, in order
abbrev pub bridge : Mapping → Hashes → List Window → ℕ → ℕ → List BridgeRow
bridge mapping hashes sealed path date = sorted_by bridge_cmp (map (bridge_row hashes) (path_mart mapping sealed path date))

-- ---- snapshots

-- the tables of a snapshot: the point-in-time tables of all hubs, then the bridges of all paths, in declared order
abbrev pub snap_tables : Mapping → Hashes → List Window → ℕ → List SnapTable
snap_tables mapping hashes sealed date =
    map (λ hub. record { id = Pit hub; rows = Pits (pit mapping hashes sealed hub date) }) (range_with_len 0 (length mapping.hubs))
    ++ map (λ path. record { id = Bridge path; rows = Bridges (bridge mapping hashes sealed path date) }) (range_with_len 0 (length mapping.paths))

-- the head of tables at a date: how many rows they have, and what these weigh
abbrev pub snap_head : ℕ → List SnapTable → SnapHead
snap_head date tables = record {
  date = date;
  rows = sum_by (λ table. row_count table.rows) tables;
  weight = sum_by (λ table. rows_weight table.rows) tables;
}

-- the snapshot of the sealed windows at a date
abbrev pub snapshot : Mapping → Hashes → List Window → ℕ → Snap
snapshot mapping hashes sealed date = record {
  head = snap_head date (snap_tables mapping hashes sealed date);
  tables = snap_tables mapping hashes sealed date;
}
