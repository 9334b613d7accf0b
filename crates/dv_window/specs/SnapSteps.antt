-- The storing of a snapshot as a step of the machine, and what its answer leaves.
use Rattle.std.specs.Prelude.{◌≡◌, ℕ, Bool, true, false, Option}
use Rattle.dv_text.specs.Keys.{Hashes}
use Rattle.dv_catalog.specs.Entries.{Mapping}
use Rattle.dv_records.specs.declared.answers.SnapAnswer.{SnapAnswer}
use Rattle.dv_records.specs.declared.answers.SnapAnswer.TheVariants as answers
use Rattle.dv_records.specs.declared.snapshots.Snap.{Snap}
use Rattle.dv_records.specs.declared.stores.Store.{Store}
use Rattle.dv_records.specs.States.{State}
use Rattle.dv_records.specs.Steps.{SnapStep}
use Rattle.dv_window.specs.Offices.{Held, IsIn, IsLeftIn}
use Rattle.dv_window.specs.Snapshots.{IsSnapshotIn}

-- the answer is a step of the machine, and the office and its keeper's store are left in the state after it
abbrev pub SnapsTo : Mapping → Hashes → State → ℕ → SnapAnswer → Held → Option Store → Type 0
SnapsTo mapping hashes state date answer held' after = (state' : State) × SnapStep mapping hashes state date answer state' × IsLeftIn hashes state' held' after

-- so it is in each state that the office and the store are in and whose snapshot is given to the keeper
abbrev pub SnapsInStates : Held → Option Store → Snap → SnapAnswer → Held → Option Store → Type 0
SnapsInStates held before snap answer held' after =
    (hashes : Hashes) (state : State) → IsSnapshotIn held.vault.mapping hashes state snap → IsIn hashes state held before
    → SnapsTo held.vault.mapping hashes state snap.head.date answer held' after

-- each answer but that the snapshot is stored, or that the keeper failed, leaves the office and its keeper's store
abbrev pub LeavesBoth : SnapAnswer → Held → Held → Option Store → Option Store → Type 0
LeavesBoth (answers.Stored rows) held held' before after = Unit {0}
LeavesBoth answers.KeeperFault held held' before after = Unit {0}
LeavesBoth answer held held' before after = (held' ≡ held) × (after ≡ before)

-- the office is stale where the keeper failed, and only there
abbrev pub StaleAfter : SnapAnswer → Bool → Type 0
StaleAfter answers.KeeperFault is = is ≡ true
StaleAfter answer is = is ≡ false
