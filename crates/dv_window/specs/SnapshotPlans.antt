-- What is decided of a snapshot before a keeper hears of it.
use Rattle.std.specs.Prelude.{◌≡◌, ℕ, Bool, true, false, List, Some, None}
use Rattle.dv_text.specs.Keys.{Hashes}
use Rattle.dv_catalog.specs.Entries.{Mapping}
use Rattle.dv_records.specs.declared.answers.SnapAnswer.{SnapAnswer}
use Rattle.dv_records.specs.declared.answers.SnapAnswer.TheVariants as answers
use Rattle.dv_records.specs.declared.snapshots.SnapHead.{SnapHead}
use Rattle.dv_records.specs.Snapshots.{snapshot}
use Rattle.dv_records.specs.States.{State}
use Rattle.dv_records.specs.Steps.{snapshot_refusal}
use Rattle.dv_window.specs.declared.snapshot_plans.Planned.{Planned}
use Rattle.dv_window.specs.declared.snapshot_plans.Planned.TheVariants.{New, Refused}
use Rattle.dv_restore.specs.Restored.{heads_of_state}
use Rattle.dv_vault.specs.Vaults.{HasSealed, RawVault}
use Rattle.dv_window.specs.Snapshots.{MayKeep}

-- a vault has the sealed windows of a state, and the state's snapshots have these heads
pub record IsOf (hashes : Hashes) (state : State) (raw : RawVault) (heads : List SnapHead) : Type 0 where
  pub sealed_are : HasSealed hashes state.sealed raw
  pub heads_are : heads ≡ heads_of_state raw.mapping hashes state

-- what is decided in a state: the snapshot at the date, where no refusal holds; else the first that does
abbrev pub Plans : Mapping → Hashes → State → ℕ → Planned → Type 0
Plans mapping hashes state date (New snap) = (snap ≡ snapshot mapping hashes state.sealed date) × (snapshot_refusal mapping hashes state date ≡ None)
Plans mapping hashes state date (Refused answer) = snapshot_refusal mapping hashes state date ≡ Some answer

-- the answers that refuse a snapshot
abbrev pub is_refusal : SnapAnswer → Bool
is_refusal answers.Repeated = true
is_refusal (answers.Future last) = true
is_refusal (answers.TooLarge path) = true
is_refusal (answers.Full weight) = true
is_refusal answer = false

-- what is decided is a snapshot at the date that may be kept beside the stored ones, or one of these answers
abbrev pub IsPlanned : List SnapHead → ℕ → Planned → Type 0
IsPlanned heads date (New snap) = (snap.head.date ≡ date) × MayKeep heads snap
IsPlanned heads date (Refused answer) = is_refusal answer ≡ true
