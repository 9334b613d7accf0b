-- The text of a stored table of a snapshot, and the damage that its rows can show.
use Rattle.std.specs.Prelude.{◌≡◌, ◌<◌, ◌≤◌, ℕ, ◌++◌, List, None, Option, Some, codes, length, slice_get}
use Rattle.dv_text.specs.declared.rows.Key.{Key}
use Rattle.dv_text.specs.declared.rows.Window.{Window}
use Rattle.dv_text.specs.Keys.{Hashes}
use Rattle.dv_catalog.specs.Entries.{Mapping}
use Rattle.dv_catalog.specs.Tables.{hub_name}
use Rattle.dv_bridge.specs.Paths.{name_of_path, path_feeds}
use Rattle.dv_records.specs.declared.answers.Damage.{Damage}
use Rattle.dv_records.specs.declared.snapshots.Snap.{Snap}
use Rattle.dv_records.specs.declared.snapshots.SnapHead.{SnapHead}
use Rattle.dv_records.specs.declared.snapshots.SnapId.{SnapId}
use Rattle.dv_records.specs.declared.snapshots.SnapId.TheVariants.{Pit, Bridge}
use Rattle.dv_records.specs.declared.stores.Rows.{Rows}
use Rattle.dv_records.specs.declared.stores.Store.{Store}
use Rattle.dv_records.specs.Snapshots.{bridge, pit}
use Rattle.dv_records.specs.States.{State}
use Rattle.dv_window.specs.declared.snapshot_queries.SnapshotQuery.{SnapshotQuery}
use Rattle.dv_window.specs.RowForms.{bridge_form, bridges_in, is_sound_bridge, is_sound_pit, pit_form, pits_in}
use Rattle.dv_window.specs.StoredRows.{asked_of, first_flaw, head_at, own_rows, read_rows}
use Rattle.dv_print.specs.Texts.{bridge_text, pit_text}
use Rattle.dv_window.specs.Offices.{Held, IsIn}

-- ---- a table of a snapshot

-- the mapping has the hub or the path that a table is of
abbrev pub HasTable : Mapping → SnapId → Type 0
HasTable mapping (Pit hub) = hub < length mapping.hubs
HasTable mapping (Bridge path) = path < length mapping.paths

-- a table's name: what it is, and the name of its hub or path
abbrev pub snap_name : Mapping → SnapId → List ℕ
snap_name mapping (Pit hub) = codes "pit_" ++ hub_name (slice_get mapping.hubs hub)
snap_name mapping (Bridge path) = codes "bridge_" ++ name_of_path (slice_get mapping.paths path)

-- the text of a table at a date over the sealed windows
abbrev pub table_text : Mapping → Hashes → List Window → SnapId → ℕ → List ℕ
table_text mapping hashes sealed (Pit hub) date = pit_text mapping hub date (pit mapping hashes sealed hub date)
table_text mapping hashes sealed (Bridge path) date =
    bridge_text mapping (path_feeds (slice_get mapping.paths path)) date (bridge mapping hashes sealed path date)

-- ---- rows that are stored for one

-- the text of a table with these rows; rows of another kind are not shown
abbrev pub rows_text : Mapping → SnapId → ℕ → Rows → List ℕ
rows_text mapping (Pit hub) date rows = pit_text mapping hub date (own_rows (pits_in rows))
rows_text mapping (Bridge path) date rows = bridge_text mapping (path_feeds (slice_get mapping.paths path)) date (own_rows (bridges_in rows))

-- the number of the first row, from 1, that is of another kind than the table's, or has not the form of its rows
abbrev pub flawed_row : Mapping → ℕ → SnapId → Rows → Option ℕ
flawed_row mapping width (Pit hub) rows = first_flaw pits_in (is_sound_pit (pit_form mapping width hub)) rows
flawed_row mapping width (Bridge path) rows = first_flaw bridges_in (is_sound_bridge (bridge_form mapping width (slice_get mapping.paths path))) rows

-- ---- what is asked for of the stored snapshots

-- the damage names a row of a table, whatever is stored: by its number from 1, and the rule F4
pub record IsRowOf (mapping : Mapping) (id : SnapId) (damage : Damage) : Type 0 where
  pub counted : 1 ≤ damage.row
  pub table_is : damage.table ≡ snap_name mapping id
  pub rule_is : damage.rule ≡ 4

-- none of the rows that are asked for is flawed, and the text has them
pub record IsTextOf (mapping : Mapping) (width : ℕ) (asked : SnapshotQuery) (snapshots : List Snap) (text : List ℕ) : Type 0 where
  pub sound : flawed_row mapping width asked.id (read_rows asked snapshots) ≡ None
  pub text_is : text ≡ rows_text mapping asked.id asked.date (read_rows asked snapshots)

-- the damage names the first of the rows that are asked for that is flawed, and the rule F4
pub record IsDamageOf (mapping : Mapping) (width : ℕ) (asked : SnapshotQuery) (snapshots : List Snap) (damage : Damage) : Type 0 where
  pub row_is : flawed_row mapping width asked.id (read_rows asked snapshots) ≡ Some damage.row
  pub table_is : damage.table ≡ snap_name mapping asked.id
  pub rule_is : damage.rule ≡ 4

-- the same of what is asked for of a table in the snapshot at a date, whose head an office has
pub record IsStoredText (held : Held) (id : SnapId) (date : ℕ) (snapshots : List Snap) (text : List ℕ) : Type 0 where
  pub head : SnapHead
  pub head_is : head_at date held.snapshots ≡ Some head
  pub text_is : IsTextOf held.vault.mapping held.width (asked_of id head) snapshots text

pub record IsStoredDamage (held : Held) (id : SnapId) (date : ℕ) (snapshots : List Snap) (damage : Damage) : Type 0 where
  pub head : SnapHead
  pub head_is : head_at date held.snapshots ≡ Some head
  pub damage_is : IsDamageOf held.vault.mapping held.width (asked_of id head) snapshots damage

-- in no state are an office and its keeper's store, which is told, by digests of the office's width
abbrev pub AreInNoState : Held → Option Store → Type 0
AreInNoState held stored =
    (hashes : Hashes) (state : State) (store : Store) → stored ≡ Some store → IsIn hashes state held (Some store)
    → ((refs : List Key) → length (hashes.hash refs) ≡ held.width) → ⊥
