-- What the storing of a mapping, and of a snapshot, makes of what a store stands for; and that a store that stands for a
-- state has no damage.
use Rattle.std.specs.Prelude.{◌≡◌, ◌≢◌, ◌⊎◌, ℕ, true, List, None, Ok}
use Rattle.dv_text.specs.Keys.{DigestFunction, Hashes, hashes_of}
use Rattle.dv_catalog.specs.Entries.{Mapping}
use Rattle.dv_catalog.specs.MappingFiles.{read_mapping}
use Rattle.dv_records.specs.declared.answers.InitAnswer.{InitAnswer}
use Rattle.dv_records.specs.declared.snapshots.Snap.{Snap}
use Rattle.dv_records.specs.declared.stores.Store.{Store}
use Rattle.dv_records.specs.Snapshots.{snapshot}
use Rattle.dv_records.specs.Standing.{IsFresh, Stands}
use Rattle.dv_records.specs.States.{State, beginning}
use Rattle.dv_records.specs.Steps.{InitBroke, InitStep, snapshot_refusal, with_date}
use Rattle.dv_records.specs.Stores.{is_new_snapshot, is_well_formed, with_snapshot}
use Rattle.dv_store_rules.specs.Damages.{form_damage}
use Rattle.dv_records.specs.declared.answers.InitAnswer.TheVariants as init

-- ---- a mapping

-- the file is read as a mapping, and the store stands for it and the beginning
pub record StandsAtFirst (file : List ℕ) (store : Store) : Type 0 where
  pub mapping : Mapping
  pub reads : read_mapping file ≡ Ok mapping
  pub stands : (hashes : Hashes) → Stands mapping hashes beginning store

-- a fresh store in which a mapping is stored stands for the mapping and the beginning
abbrev pub StoredStands : Type 0
StoredStands = (file : List ℕ) (store store' : Store) → IsFresh store → InitStep file store init.Stored store' → StandsAtFirst file store'

-- where the storing broke off it does so, or is fresh
abbrev pub BrokenStands : Type 0
BrokenStands = (file : List ℕ) (store store' : Store) → IsFresh store → InitBroke file store store' → IsFresh store' ⊎ StandsAtFirst file store'

-- a store that stands for a state is left as it is, and no mapping is stored in it
abbrev pub InitLeaves : Type 0
InitLeaves =
    (mapping : Mapping) (hashes : Hashes) (state : State) (file : List ℕ) (store store' : Store) (answer : InitAnswer)
    → Stands mapping hashes state store → InitStep file store answer store' → (answer ≢ init.Stored) × (store' ≡ store)

-- ---- a snapshot

-- a store that stands for a state, with the snapshot at a date that is not refused, stands for the state with the date
abbrev pub SnapshotStands : Type 0
SnapshotStands =
    (mapping : Mapping) (hashes : Hashes) (state : State) (date : ℕ) (store : Store)
    → Stands mapping hashes state store → snapshot_refusal mapping hashes state date ≡ None
    → Stands mapping hashes (with_date date state) (with_snapshot (snapshot mapping hashes state.sealed date) store)

-- and there the snapshot is new
abbrev pub SnapshotIsNew : Type 0
SnapshotIsNew =
    (mapping : Mapping) (hashes : Hashes) (state : State) (date : ℕ) (store : Store)
    → Stands mapping hashes state store → snapshot_refusal mapping hashes state date ≡ None
    → is_new_snapshot (snapshot mapping hashes state.sealed date) store.snapshots ≡ true

-- a new snapshot leaves a store well formed
abbrev pub SnapshotKeepsForm : Type 0
SnapshotKeepsForm = (snap : Snap) (store : Store) → is_well_formed store ≡ true → is_new_snapshot snap store.snapshots ≡ true → is_well_formed (with_snapshot snap store) ≡ true

-- ---- damage

-- a store that stands for a state has no damage of its sealed windows, its open window, its raw tables and its snapshots,
-- under each digest function
abbrev pub StandingSound : Type 0
StandingSound =
    (mapping : Mapping) (function : DigestFunction) (state : State) (store : Store)
    → Stands mapping (hashes_of function) state store → form_damage mapping (hashes_of function) function.width store ≡ None
