-- An office: what it holds of the warehouse, the state that it stands for, and what a call leaves of both.
use Rattle.std.specs.Option.{option_map}
use Rattle.std.specs.Prelude.{◌≡◌, ◌⊎◌, ℕ, Bool, true, false, List, Option, Some, None}
use Rattle.dv_text.specs.declared.rows.Window.{Window}
use Rattle.dv_text.specs.Keys.{Hashes}
use Rattle.dv_text.specs.Told.{Told}
use Rattle.dv_catalog.specs.declared.windows.WindowIn.{WindowIn}
use Rattle.dv_catalog.specs.Entries.{Mapping}
use Rattle.dv_records.specs.declared.answers.Damage.{Damage}
use Rattle.dv_records.specs.declared.answers.LoadAnswer.{LoadAnswer}
use Rattle.dv_records.specs.declared.answers.LoadAnswer.TheVariants as load
use Rattle.dv_records.specs.declared.answers.ResumeAnswer.{ResumeAnswer}
use Rattle.dv_records.specs.declared.answers.ResumeAnswer.TheVariants as resume
use Rattle.dv_records.specs.declared.snapshots.SnapHead.{SnapHead}
use Rattle.dv_records.specs.declared.stores.Store.{Store}
use Rattle.dv_records.specs.Standing.{IsMappedBy, Stands}
use Rattle.dv_records.specs.States.{State, is_valid_state}
use Rattle.dv_records.specs.Steps.{LoadStep, ResumeStep}
use Rattle.dv_vault.specs.declared.begun.Begun.{Begun}
use Rattle.dv_restore.specs.Completions.{IsOpenBehind}
use Rattle.dv_restore.specs.Damages.{IsFirstDamage, IsReadAs, mapping_damage}
use Rattle.dv_restore.specs.Restored.{HasKept, heads_of_state}
use Rattle.dv_vault.specs.Vaults.{HasSealed, RawVault}

-- what an office holds: the vault of the sealed windows, the open window with what the tables lack of it, the heads of the snapshots,
-- whether its keeper may have more than it knows, and the width of the digests with which it was read
pub record Held : Type 0 where
  pub vault : RawVault
  pub begun : Option Begun
  pub snapshots : List SnapHead
  pub stale : Bool
  pub width : ℕ

-- the open window of an office
abbrev pub staged : Held → Option Window
staged held = option_map (λ b. b.window) held.begun

-- an office that is the same, but stale
abbrev pub made_stale : Held → Held
made_stale held = record held { stale = true }

-- an office stands for a state, which is valid
pub record StandsFor (hashes : Hashes) (state : State) (held : Held) : Type 0 where
  pub valid : is_valid_state held.vault.mapping hashes state ≡ true
  pub sealed_are : HasSealed hashes state.sealed held.vault
  pub begun_is : IsOpenBehind held.vault.mapping hashes state.sealed state.begun held.begun
  pub snapshots_are : held.snapshots ≡ heads_of_state held.vault.mapping hashes state

-- a store has what an office holds
pub record Agrees (held : Held) (store : Store) : Type 0 where
  pub mapped : IsMappedBy held.vault.mapping store.mapping
  pub kept : HasKept held.vault held.begun held.snapshots store

-- an office that isn't stale agrees with its keeper's store, where this is told
abbrev pub AgreesUnlessStale : Held → Option Store → Type 0
AgreesUnlessStale held store = held.stale ≡ false → Told store (Agrees held)

-- ---- a state, an office and its keeper's store

-- an office that isn't stale stands for the state; for a stale one its keeper tells the store. The store, where it is
-- told, stands for the state.
pub record IsIn (hashes : Hashes) (state : State) (held : Held) (store : Option Store) : Type 0 where
  pub stands : held.stale ≡ false → StandsFor hashes state held
  pub told : held.stale ≡ true → (s : Store) × (store ≡ Some s)
  pub store_stands : Told store (Stands held.vault.mapping hashes state)

-- what a call leaves: an office that stands for the state unless it is stale, and a store that does where it is told
pub record IsLeftIn (hashes : Hashes) (state : State) (held : Held) (store : Option Store) : Type 0 where
  pub stands : held.stale ≡ false → StandsFor hashes state held
  pub store_stands : Told store (Stands held.vault.mapping hashes state)

-- the answer to a window is a step of the machine
abbrev pub StepsTo : Mapping → Hashes → State → WindowIn → LoadAnswer → Held → Option Store → Type 0
StepsTo mapping hashes state given answer held' after =
    (state' : State) × LoadStep mapping hashes state given answer state' × IsLeftIn hashes state' held' after

-- and so is that to the completion of the open window
abbrev pub CompletesTo : Mapping → Hashes → State → ResumeAnswer → Held → Option Store → Type 0
CompletesTo mapping hashes state answer held' after =
    (state' : State) × ResumeStep mapping hashes state answer state' × IsLeftIn hashes state' held' after

-- ---- whether an office is stale

-- a call leaves it stale where a call of the keeper failed, or it was stale and could not be refreshed
abbrev pub StaleAfter : LoadAnswer → Bool → Bool → Type 0
StaleAfter (load.Loaded rows) was is = is ≡ false
StaleAfter load.Repeated was is = is ≡ false
StaleAfter (load.Refused rule) was is = is ≡ false
StaleAfter (load.Damaged damage) was is = (was ≡ true) × (is ≡ true)
StaleAfter load.KeeperFault was is = is ≡ true
StaleAfter load.Memory was is = is ≡ true → was ≡ true

abbrev pub StaleThen : ResumeAnswer → Bool → Bool → Type 0
StaleThen (resume.Loaded rows) was is = is ≡ false
StaleThen resume.NothingOpen was is = is ≡ false
StaleThen (resume.Damaged damage) was is = (was ≡ true) × (is ≡ true)
StaleThen resume.KeeperFault was is = is ≡ true
StaleThen resume.Memory was is = is ≡ true → was ≡ true

-- ---- what is left as it was

-- the answers that leave the keeper's store as it was
abbrev pub LeavesStore : LoadAnswer → Option Store → Option Store → Type 0
LeavesStore (load.Loaded rows) before after = Unit {0}
LeavesStore load.Repeated before after = after ≡ before
LeavesStore (load.Refused rule) before after = after ≡ before
LeavesStore (load.Damaged damage) before after = after ≡ before
LeavesStore load.KeeperFault before after = Unit {0}
LeavesStore load.Memory before after = Unit {0}

-- the answers that leave the office as it was
abbrev pub LeavesOffice : LoadAnswer → Held → Held → Type 0
LeavesOffice (load.Loaded rows) held held' = Unit {0}
LeavesOffice load.Repeated held held' = held' ≡ held
LeavesOffice (load.Refused rule) held held' = held' ≡ held
LeavesOffice (load.Damaged damage) held held' = held' ≡ held
LeavesOffice load.KeeperFault held held' = Unit {0}
LeavesOffice load.Memory held held' = Unit {0}

abbrev pub LeavesStill : ResumeAnswer → Option Store → Option Store → Type 0
LeavesStill (resume.Loaded rows) before after = Unit {0}
LeavesStill resume.NothingOpen before after = after ≡ before
LeavesStill (resume.Damaged damage) before after = after ≡ before
LeavesStill resume.KeeperFault before after = Unit {0}
LeavesStill resume.Memory before after = Unit {0}

-- ---- damage

-- the stored mapping is gone, or is another one
abbrev pub IsOther : Mapping → Store → Type 0
IsOther mapping store = (store.mapping ≡ None) ⊎ ((other : Mapping) × IsReadAs other store × (other ≡ mapping → ⊥))

-- this is damage of the mapping, and no other rule is asked then
abbrev pub IsOtherMapping : Mapping → Store → Damage → Type 0
IsOtherMapping mapping store damage = IsOther mapping store × (damage ≡ mapping_damage)

-- the damage of a store for an office of a mapping: that its mapping is another one, or else its first damage
abbrev pub IsDamageFor : Mapping → Hashes → ℕ → Store → Damage → Type 0
IsDamageFor mapping hashes width store damage =
    IsOtherMapping mapping store damage ⊎ (IsFirstDamage hashes width store damage × (IsOther mapping store → ⊥))
