-- A store, its tables, and the changes that a keeper makes to it.
use Rattle.std.specs.Prelude.{◌≡◌, ℕ, ◌==◌, ◌&&◌, nat_lt, not, Bool, true, false, List, [], ◌∷◌, ◌++◌, Option, Some, None, length, take, drop, if◌then◌else◌}
use Rattle.std.specs.List.{list_all, list_any}
use Rattle.std.specs.Ordering.{nat_cmp}
use Rattle.std.specs.declared.cmp.Ordering.{Ordering}
use Rattle.dv_text.specs.declared.rows.Window.{Window}
use Rattle.dv_text.specs.declared.rows.WindowHead.{WindowHead}
use Rattle.dv_text.specs.Sorting.{insert_by}
use Rattle.dv_catalog.specs.declared.tables.TableId.{TableId}
use Rattle.dv_catalog.specs.declared.tables.TableId.TheVariants.{Hub, Link, Sat, Multi, Status, Effect}
use Rattle.dv_records.specs.declared.snapshots.Snap.{Snap}
use Rattle.dv_records.specs.declared.snapshots.SnapId.{SnapId}
use Rattle.dv_records.specs.declared.snapshots.SnapId.TheVariants.{Pit, Bridge}
use Rattle.dv_records.specs.declared.snapshots.SnapTable.{SnapTable}
use Rattle.dv_records.specs.declared.stores.Rows.{Rows}
use Rattle.dv_records.specs.declared.stores.Rows.TheVariants.{Hubs, Links, Sats, Multis, Statuses, Effects, Pits, Bridges}
use Rattle.dv_records.specs.declared.stores.Store.{Store}
use Rattle.dv_records.specs.declared.stores.TableRows.{TableRows}

-- ---- tables and kinds of rows

-- whether two tables are one
abbrev pub table_eq : TableId → TableId → Bool
table_eq (Hub a) (Hub b) = a == b
table_eq (Link a) (Link b) = a == b
table_eq (Sat a) (Sat b) = a == b
table_eq (Multi a) (Multi b) = a == b
table_eq (Status a) (Status b) = a == b
table_eq (Effect a) (Effect b) = a == b
table_eq a b = false

-- whether rows are of a table's kind
abbrev pub is_of_kind : TableId → Rows → Bool
is_of_kind (Hub n) (Hubs rows) = true
is_of_kind (Link n) (Links rows) = true
is_of_kind (Sat n) (Sats rows) = true
is_of_kind (Multi n) (Multis rows) = true
is_of_kind (Status n) (Statuses rows) = true
is_of_kind (Effect n) (Effects rows) = true
is_of_kind table rows = false

-- no rows, of a table's kind
abbrev pub no_rows : TableId → Rows
no_rows (Hub n) = Hubs []
no_rows (Link n) = Links []
no_rows (Sat n) = Sats []
no_rows (Multi n) = Multis []
no_rows (Status n) = Statuses []
no_rows (Effect n) = Effects []

-- rows of one kind, one list after the other
abbrev pub rows_then : Rows → Rows → Rows
rows_then (Hubs a) (Hubs b) = Hubs (a ++ b)
rows_then (Links a) (Links b) = Links (a ++ b)
rows_then (Sats a) (Sats b) = Sats (a ++ b)
rows_then (Multis a) (Multis b) = Multis (a ++ b)
rows_then (Statuses a) (Statuses b) = Statuses (a ++ b)
rows_then (Effects a) (Effects b) = Effects (a ++ b)
rows_then (Pits a) (Pits b) = Pits (a ++ b)
rows_then (Bridges a) (Bridges b) = Bridges (a ++ b)
rows_then a b = a

-- at most so many rows, from a place on
abbrev pub page : ℕ → ℕ → Rows → Rows
page from most (Hubs rows) = Hubs (take most (drop from rows))
page from most (Links rows) = Links (take most (drop from rows))
page from most (Sats rows) = Sats (take most (drop from rows))
page from most (Multis rows) = Multis (take most (drop from rows))
page from most (Statuses rows) = Statuses (take most (drop from rows))
page from most (Effects rows) = Effects (take most (drop from rows))
page from most (Pits rows) = Pits (take most (drop from rows))
page from most (Bridges rows) = Bridges (take most (drop from rows))

-- how many rows there are
abbrev pub row_count : Rows → ℕ
row_count (Hubs rows) = length rows
row_count (Links rows) = length rows
row_count (Sats rows) = length rows
row_count (Multis rows) = length rows
row_count (Statuses rows) = length rows
row_count (Effects rows) = length rows
row_count (Pits rows) = length rows
row_count (Bridges rows) = length rows

-- ---- the tables of a store

-- the rows of a table: those of its entry; none where it has no entry
abbrev pub rows_in : TableId → List TableRows → Rows
rows_in table [] = no_rows table
rows_in table (entry ∷ entries) = if table_eq entry.table table then entry.rows else rows_in table entries

-- the tables after rows are put at the end of one
abbrev pub appended_to : TableId → Rows → List TableRows → List TableRows
appended_to table rows [] = record { table = table; rows = rows } ∷ []
appended_to table rows (entry ∷ entries) =
    if table_eq entry.table table then record entry { rows = rows_then entry.rows rows } ∷ entries
    else entry ∷ appended_to table rows entries

-- no table has two entries
abbrev pub are_apart : List TableRows → Bool
are_apart [] = true
are_apart (entry ∷ entries) = not (list_any (λ other. table_eq other.table entry.table) entries) && are_apart entries

-- an entry whose list is empty has its table's kind
abbrev pub has_kind : TableRows → Bool
has_kind entry = if row_count entry.rows == 0 then is_of_kind entry.table entry.rows else true

abbrev pub have_kinds : List TableRows → Bool
have_kinds [] = true
have_kinds (entry ∷ entries) = has_kind entry && have_kinds entries

-- whether two tables of a snapshot are one
abbrev pub snap_id_eq : SnapId → SnapId → Bool
snap_id_eq (Pit a) (Pit b) = a == b
snap_id_eq (Bridge a) (Bridge b) = a == b
snap_id_eq a b = false

-- no table of a snapshot has two entries
abbrev pub are_snap_tables_apart : List SnapTable → Bool
are_snap_tables_apart [] = true
are_snap_tables_apart (entry ∷ entries) = not (list_any (λ other. snap_id_eq other.id entry.id) entries) && are_snap_tables_apart entries

-- the dates of snapshots ascend, and each has its tables apart
abbrev pub are_snapshots_in_order : List Snap → Bool
are_snapshots_in_order [] = true
are_snapshots_in_order (snap ∷ snaps) =
    list_all (λ later. nat_lt snap.head.date later.head.date) snaps && are_snap_tables_apart snap.tables && are_snapshots_in_order snaps

-- no rows, of the kind of a snapshot's table
abbrev pub no_snap_rows : SnapId → Rows
no_snap_rows (Pit n) = Pits []
no_snap_rows (Bridge n) = Bridges []

-- the rows of one of a snapshot's tables: those of its entry; none where it has no entry
abbrev pub rows_of_snap : SnapId → List SnapTable → Rows
rows_of_snap id [] = no_snap_rows id
rows_of_snap id (entry ∷ entries) = if snap_id_eq entry.id id then entry.rows else rows_of_snap id entries

-- the rows of a table of the snapshot at a date; none where none is stored at it
abbrev pub snapshot_rows : ℕ → SnapId → List Snap → Rows
snapshot_rows date id [] = no_snap_rows id
snapshot_rows date id (snap ∷ snaps) = if snap.head.date == date then rows_of_snap id snap.tables else snapshot_rows date id snaps

-- no snapshot is stored at the date of a new one, and none of its tables has two entries
abbrev pub is_new_snapshot : Snap → List Snap → Bool
is_new_snapshot snap snaps = not (list_any (λ other. other.head.date == snap.head.date) snaps) && are_snap_tables_apart snap.tables

-- what holds of every store that a keeper keeps
abbrev pub is_well_formed : Store → Bool
is_well_formed store = are_apart store.tables && have_kinds store.tables && are_snapshots_in_order store.snapshots

-- ---- the changes

abbrev pub with_mapping : List ℕ → Store → Store
with_mapping text store = record store { mapping = Some text }

abbrev pub with_stage : Window → Store → Store
with_stage window store = record store { stage = Some window }

abbrev pub with_rows : TableId → Rows → Store → Store
with_rows table rows store = record store { tables = appended_to table rows store.tables }

-- the head is recorded and the stage cleared in one
abbrev pub with_seal : WindowHead → Store → Store
with_seal head store = record store { windows = store.windows ++ head ∷ []; stage = None }

-- by date
abbrev pub snap_cmp : Snap → Snap → Ordering
snap_cmp a b = nat_cmp a.head.date b.head.date

-- the snapshot is put among the stored ones, in its place by date
abbrev pub with_snapshot : Snap → Store → Store
with_snapshot snap store = record store { snapshots = insert_by snap_cmp snap store.snapshots }

-- a window of this load date is open
abbrev pub IsStagedAt : ℕ → Option Window → Type 0
IsStagedAt load None = ⊥
IsStagedAt load (Some window) = window.load ≡ load
