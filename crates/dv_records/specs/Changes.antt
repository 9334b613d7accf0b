-- What a changing call of a keeper does to its store.
use Rattle.std.specs.Prelude.{◌≡◌, ◌⊎◌, ℕ, ◌≤◌, Option, Some, None, Result, Ok, Err, IsErrOf}
use Rattle.dv_text.specs.Causes.{Rose}
use Rattle.dv_records.specs.declared.stores.Store.{Store}
use Rattle.dv_records.specs.declared.keepers.KeeperError.{KeeperError}
use Rattle.dv_records.specs.declared.keepers.KeeperError.TheVariants.{Failed, Memory}

-- a store after a change, where it is told
abbrev pub changed : (Store → Store) → Option Store → Option Store
changed change None = None
changed change (Some store) = Some (change store)

-- an Ok makes the change, want of memory makes none, and a failed call made it or none
abbrev pub Changes : {T : Type 0} → (Store → Store) → Option Store → Option Store → Result T KeeperError → Type 0
Changes change old new (Ok _) = new ≡ changed change old
Changes change old new (Err Memory) = new ≡ old
Changes change old new (Err Failed) = (new ≡ old) ⊎ (new ≡ changed change old)

-- the count of faults did not fall, and a call failed only where it rose
pub record KeeperCause {T : Type 0} (before now : ℕ) (result : Result T KeeperError) : Type 0 where
  pub later : before ≤ now
  pub failed : IsErrOf result Failed → Rose before now
