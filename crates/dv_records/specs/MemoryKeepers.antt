-- A keeper in memory: its store, its plan of failures, and how its calls go.
use Rattle.std.specs.Prelude.{◌≡◌, ◌⊎◌, IsTrue, [], Some, None, Result, Ok, Err, unwrap_or}
use Rattle.std.proofs.Common.{ap, subst}
use Rattle.dv_text.specs.Told.{Told}
use Rattle.dv_records.specs.declared.keepers.KeeperError.{KeeperError}
use Rattle.dv_records.specs.declared.keepers.KeeperError.TheVariants.{Failed, Memory}
use Rattle.dv_records.specs.declared.memory_keepers.MemoryKeeper.{MemoryKeeper}
use Rattle.dv_records.specs.declared.stores.Store.{Store}
use Rattle.dv_records.specs.declared.planned_failures.Turn.TheVariants.{Works, FailsBefore, FailsAfter}
use Rattle.dv_records.specs.Stores.{is_well_formed}
use Rattle.dv_records.specs.PlannedFailures.{Plan, next_turn, after_change, after_failure}

-- a store with nothing in it
abbrev pub empty_store : Store
empty_store = record { mapping = None; stage = None; windows = []; tables = []; snapshots = [] }

abbrev pub keeper_store : MemoryKeeper → Store
keeper_store keeper = keeper.store

-- the failures that are still planned, how many calls changed the store or were to, and how many calls failed
abbrev pub keeper_plan : MemoryKeeper → Plan
keeper_plan keeper = keeper.plan

-- a changing call works exactly where no failure of its number is planned, and want of memory changes nothing;
-- one that fails makes its change where its failure is planned so, and is counted
abbrev pub ChangeTurn : {T : Type 0} → (Store → Store) → MemoryKeeper → MemoryKeeper → Result T KeeperError → Type 0
ChangeTurn change old new (Ok _) =
    (next_turn (keeper_plan old) ≡ Works) × (keeper_store new ≡ change (keeper_store old)) × (keeper_plan new ≡ after_change (keeper_plan old))
ChangeTurn change old new (Err Memory) = (keeper_store new ≡ keeper_store old) × (keeper_plan new ≡ keeper_plan old)
ChangeTurn change old new (Err Failed) =
    (((next_turn (keeper_plan old) ≡ FailsBefore) × (keeper_store new ≡ keeper_store old))
    ⊎ ((next_turn (keeper_plan old) ≡ FailsAfter) × (keeper_store new ≡ change (keeper_store old))))
    × (keeper_plan new ≡ after_failure (keeper_plan old))

-- the store of a keeper in memory is well formed
pub told_well_formed : (keeper : MemoryKeeper) → Told (Some (keeper_store keeper)) (λ s. IsTrue (is_well_formed s))
told_well_formed keeper s told = subst (λ store. IsTrue (is_well_formed store)) (ap (λ o. unwrap_or o keeper.store) told) keeper.well_formed
