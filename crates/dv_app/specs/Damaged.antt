-- The damage that a command may name of the keeper's store.
use Rattle.std.specs.Prelude.{◌≡◌, ◌⊎◌, ℕ, List, Option, Some}
use Rattle.dv_text.specs.Keys.{DigestFunction, hashes_of}
use Rattle.dv_text.specs.Stamps.{stamp_of}
use Rattle.dv_text.specs.Told.{Told}
use Rattle.dv_catalog.specs.Entries.{Mapping}
use Rattle.dv_store_rules.specs.SnapshotHeads.{snapshot_heads}
use Rattle.dv_outside.specs.declared.statuses.Status.TheVariants as statuses
use Rattle.dv_records.specs.declared.answers.Damage.{Damage}
use Rattle.dv_records.specs.declared.snapshots.SnapHead.{SnapHead}
use Rattle.dv_records.specs.declared.snapshots.SnapId.{SnapId}
use Rattle.dv_records.specs.declared.stores.Store.{Store}
use Rattle.dv_window.specs.StoredRows.{asked_of, head_at}
use Rattle.dv_window.specs.StoredTexts.{IsDamageOf, IsRowOf}
use Rattle.dv_restore.specs.Damages.{IsFirstDamage, IsNamedBySome, IsNotRead, mapping_damage}
use Rattle.dv_given.specs.Tried.{Tried}
use Rattle.dv_app.specs.Kept.{IsOpenedBy, IsStanding, damaged_said, stored_id}
use Rattle.dv_app.specs.Words.{Init, KeptCommand, Stored, StoredTable}

-- the first damage of a store
abbrev pub HasFirst : DigestFunction → Store → Damage → Type 0
HasFirst function store damage = IsFirstDamage (hashes_of function) function.width store damage

-- the store breaks no rule of form, and a row that it has of the table in the snapshot at the date has not the table's form
pub record IsTableDamage (function : DigestFunction) (table : StoredTable) (date : List ℕ) (store : Store) (damage : Damage) : Type 0 where
  pub mapping : Mapping
  pub opened : IsOpenedBy function store mapping
  pub id : SnapId
  pub id_is : stored_id mapping table ≡ Some id
  pub at : ℕ
  pub at_is : stamp_of date ≡ Some at
  pub head : SnapHead
  pub head_is : head_at at (snapshot_heads store) ≡ Some head
  pub damage_is : IsDamageOf mapping function.width (asked_of id head) store.snapshots damage

-- a store has the damage: `init` looks at the stored mapping alone, a command for a stored table at its rows too, and each
-- other one at the first damage
abbrev pub HasDamage : KeptCommand → DigestFunction → Store → Damage → Type 0
HasDamage Init function store damage = IsNotRead store damage
HasDamage (Stored table date) function store damage = HasFirst function store damage ⊎ IsTableDamage function table date store damage
HasDamage command function store damage = HasFirst function store damage

-- it names a row that the table may have in a snapshot
abbrev pub IsRowIn : StoredTable → Damage → Type 0
IsRowIn table damage = (mapping : Mapping) × (id : SnapId) × (stored_id mapping table ≡ Some id) × IsRowOf mapping id damage

-- whatever is stored, the damage names a place and a rule that there may be; of `init`, the stored mapping
abbrev pub MayBe : KeptCommand → Damage → Type 0
MayBe Init damage = damage ≡ mapping_damage
MayBe (Stored table date) damage = IsNamedBySome damage ⊎ IsRowIn table damage
MayBe command damage = IsNamedBySome damage

-- it is found of a store that, where it is told, has it, and stands for no state
pub record IsFound (Has : Store → Type 0) (May : Type 0) (function : DigestFunction) (told : Option Store) : Type 0 where
  pub has : Told told Has
  pub may : May
  pub stands_for_none : IsStanding (hashes_of function) told → ⊥

-- the first damage of the store
abbrev pub FindsFirst : DigestFunction → Option Store → Damage → Type 0
FindsFirst function told damage = IsFound (λ store. HasFirst function store damage) (IsNamedBySome damage) function told

-- the damage of a command
abbrev pub Finds : KeptCommand → DigestFunction → Option Store → Damage → Type 0
Finds command function told damage = IsFound (λ store. HasDamage command function store damage) (MayBe command damage) function told

-- with the status for damage such a damage is named
abbrev pub NamesDamage : KeptCommand → DigestFunction → Option Store → Tried → Type 0
NamesDamage command function told said =
    said.status ≡ statuses.Damaged → (damage : Damage) × (said ≡ damaged_said damage) × Finds command function told damage
