-- How an office keeps a snapshot, and what its answer leaves.
use Rattle.std.specs.List.{list_any}
use Rattle.std.specs.Ordering.{nat_cmp}
use Rattle.std.specs.Prelude.{◌≡◌, ◌<◌, ◌≤◌, ◌+◌, ◌==◌, ℕ, Bool, true, false, List, None, Option, Result, Ok, Err, length}
use Rattle.std.specs.declared.cmp.Ordering.{Ordering}
use Rattle.dv_text.specs.Keys.{Hashes}
use Rattle.dv_catalog.specs.Entries.{Mapping}
use Rattle.dv_store_rules.specs.SnapshotHeads.{heads_weight}
use Rattle.dv_records.specs.declared.answers.SnapAnswer.{SnapAnswer}
use Rattle.dv_records.specs.declared.answers.SnapAnswer.TheVariants as answers
use Rattle.dv_records.specs.declared.keepers.KeeperError.{KeeperError}
use Rattle.dv_records.specs.declared.keepers.KeeperError.TheVariants as errors
use Rattle.dv_records.specs.declared.snapshots.Snap.{Snap}
use Rattle.dv_records.specs.declared.snapshots.SnapHead.{SnapHead}
use Rattle.dv_records.specs.declared.stores.Store.{Store}
use Rattle.dv_records.specs.Limits.{most_snapshot_weight, most_snapshots}
use Rattle.dv_records.specs.Snapshots.{snapshot}
use Rattle.dv_records.specs.States.{State}
use Rattle.dv_records.specs.Steps.{SnapStep, snapshot_refusal}
use Rattle.dv_records.specs.Stores.{are_snap_tables_apart}
use Rattle.dv_window.specs.Offices.{Held, IsIn, IsLeftIn}

-- by date
abbrev pub head_cmp : SnapHead → SnapHead → Ordering
head_cmp a b = nat_cmp a.date b.date

-- a snapshot may be kept beside others: none of them has its date, none of its tables stands twice, and with it they keep
-- their limits
pub record MayKeep (snapshots : List SnapHead) (snap : Snap) : Type 0 where
  pub new : list_any (λ other. other.date == snap.head.date) snapshots ≡ false
  pub apart : are_snap_tables_apart snap.tables ≡ true
  pub light : heads_weight snapshots + snap.head.weight ≤ most_snapshot_weight
  pub few : length snapshots < most_snapshots

-- a snapshot is that at its date of a state, and no rule refuses it there
abbrev pub IsSnapshotIn : Mapping → Hashes → State → Snap → Type 0
IsSnapshotIn mapping hashes state snap =
    (snap ≡ snapshot mapping hashes state.sealed snap.head.date) × (snapshot_refusal mapping hashes state snap.head.date ≡ None)

-- what is said of a snapshot of so many rows that was kept, or broken off
abbrev pub kept_answer : ℕ → Result (Unit {0}) KeeperError → SnapAnswer
kept_answer rows (Ok done) = answers.Stored rows
kept_answer rows (Err errors.Failed) = answers.KeeperFault
kept_answer rows (Err errors.Memory) = answers.Memory

-- what is said of it is a step of the machine
abbrev pub KeepsTo : Mapping → Hashes → State → SnapHead → Result (Unit {0}) KeeperError → Held → Option Store → Type 0
KeepsTo mapping hashes state head result held' after =
    (state' : State) × SnapStep mapping hashes state head.date (kept_answer head.rows result) state' × IsLeftIn hashes state' held' after

-- so it is in each state that the office and the store are in and whose snapshot is kept
abbrev pub KeepsInStates : Held → Option Store → Snap → Result (Unit {0}) KeeperError → Held → Option Store → Type 0
KeepsInStates held before snap result held' after =
    (hashes : Hashes) (state : State) → IsSnapshotIn held.vault.mapping hashes state snap → IsIn hashes state held before
    → KeepsTo held.vault.mapping hashes state snap.head result held' after

-- the office is stale where the keeper failed, and only there
abbrev pub StaleWhereFailed : Result (Unit {0}) KeeperError → Bool → Type 0
StaleWhereFailed (Ok done) is = is ≡ false
StaleWhereFailed (Err errors.Failed) is = is ≡ true
StaleWhereFailed (Err errors.Memory) is = is ≡ false

-- for want of memory nothing has changed
abbrev pub LeavesAll : Result (Unit {0}) KeeperError → Held → Held → Option Store → Option Store → Type 0
LeavesAll (Ok done) held held' before after = Unit {0}
LeavesAll (Err errors.Failed) held held' before after = Unit {0}
LeavesAll (Err errors.Memory) held held' before after = (held' ≡ held) × (after ≡ before)
