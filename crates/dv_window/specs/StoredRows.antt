-- The rows of a stored table of a snapshot, as they are read and held to a form. A form is of rows of one kind: it takes
-- these from rows of any kind, and says which of them are sound.
use Rattle.std.specs.List.{position}
use Rattle.std.specs.Option.{option_map}
use Rattle.std.specs.Prelude.{ℕ, ◌+◌, ◌==◌, Bool, not, List, [], Option, None, Some, find, length, if◌then◌else◌}
use Rattle.dv_records.specs.declared.snapshots.Snap.{Snap}
use Rattle.dv_records.specs.declared.snapshots.SnapHead.{SnapHead}
use Rattle.dv_records.specs.declared.snapshots.SnapId.{SnapId}
use Rattle.dv_records.specs.declared.stores.Rows.{Rows}
use Rattle.dv_records.specs.Stores.{page, row_count, snapshot_rows}
use Rattle.dv_window.specs.declared.snapshot_queries.SnapshotQuery.{SnapshotQuery}

-- ---- what is asked for

-- the head of the snapshot at a date; none where none is stored at it
abbrev pub head_at : ℕ → List SnapHead → Option SnapHead
head_at date heads = find (λ head. head.date == date) heads

-- what is asked for of a table in a stored snapshot: as many rows as its head says
abbrev pub asked_of : SnapId → SnapHead → SnapshotQuery
asked_of id head = record { date = head.date; id = id; most = head.rows }

-- ---- the rows that are stored

-- the rows that are stored of what is asked for
abbrev pub stored_rows : SnapshotQuery → List Snap → Rows
stored_rows asked snapshots = snapshot_rows asked.date asked.id snapshots

-- those of them that are read: the first, as many as are asked for
abbrev pub read_rows : SnapshotQuery → List Snap → Rows
read_rows asked snapshots = page 0 asked.most (stored_rows asked snapshots)

-- ---- their form

-- a digest has so many bytes
abbrev pub has_width : ℕ → List ℕ → Bool
has_width width digest = length digest == width

-- the rows of a form's kind; none where rows are of another one
abbrev pub own_rows : {R : Type 0} → Option (List R) → List R
own_rows None = []
own_rows (Some rows) = rows

-- the place of the first of so many rows, if there is one
abbrev pub first_place : ℕ → Option ℕ
first_place count = if count == 0 then None else Some 0

abbrev pub flaw_in : {R : Type 0} → (R → Bool) → ℕ → Option (List R) → Option ℕ
flaw_in is_sound count None = first_place count
flaw_in is_sound count (Some rows) = position (λ row. not (is_sound row)) rows

-- the place of the first row, from 0, that is of another kind, or is not sound
abbrev pub flaw_place : {R : Type 0} → (Rows → Option (List R)) → (R → Bool) → Rows → Option ℕ
flaw_place own is_sound rows = flaw_in is_sound (row_count rows) (own rows)

-- its number, from 1
abbrev pub first_flaw : {R : Type 0} → (Rows → Option (List R)) → (R → Bool) → Rows → Option ℕ
first_flaw own is_sound rows = option_map (λ place. place + 1) (flaw_place own is_sound rows)
