-- The first damage of a whole store: the first place where it breaks a rule of form.
use Rattle.std.specs.Prelude.{◌≡◌, ◌⊎◌, ◌≤◌, ℕ, IsTrue, List, Option, Some, None, Ok, codes}
use Rattle.dv_text.specs.Keys.{Hashes}
use Rattle.dv_catalog.specs.Entries.{Mapping}
use Rattle.dv_catalog.specs.MappingFiles.{read_mapping}
use Rattle.dv_catalog.specs.declared.tables.TableId.{TableId}
use Rattle.dv_catalog.specs.TableLookups.{is_table_of}
use Rattle.dv_catalog.specs.Tables.{table_name}
use Rattle.dv_records.specs.declared.answers.Damage.{Damage}
use Rattle.dv_records.specs.declared.stores.Store.{Store}
use Rattle.dv_records.specs.Standing.{IsMappedBy}
use Rattle.dv_store_rules.specs.Damages.{damage_at, form_damage}
use Rattle.dv_restore.specs.Begins.{broken_window}
use Rattle.dv_restore.specs.Completions.{MayGoOn}
use Rattle.dv_restore.specs.Sealed.{stored_vault}

-- the stored text is read as the mapping
abbrev pub IsReadAs : Mapping → Store → Type 0
IsReadAs mapping store = IsMappedBy mapping store.mapping

-- and what was read of it: the mapping, or that none is stored
abbrev pub IsMappedAs : Option Mapping → Store → Type 0
IsMappedAs None store = store.mapping ≡ None
IsMappedAs (Some mapping) store = IsReadAs mapping store

-- the open window of a store, if there is one, has a place in the vault as it is stored
abbrev pub KeepsF15 : Hashes → Mapping → Store → Type 0
KeepsF15 hashes mapping store = MayGoOn hashes (stored_vault mapping store) store.stage

-- a store breaks no rule of form behind that of the mapping
pub record IsInForm (hashes : Hashes) (width : ℕ) (mapping : Mapping) (store : Store) : Type 0 where
  pub undamaged : form_damage mapping hashes width store ≡ None
  pub goes_on : KeepsF15 hashes mapping store

-- the damage of a stored text that is not read as a mapping
abbrev pub mapping_damage : Damage
mapping_damage = damage_at (codes "mapping") (record { row = 1; rule = 1 })

-- F1: a text is stored, and not read as a mapping
pub record IsNotRead (store : Store) (damage : Damage) : Type 0 where
  pub text : List ℕ
  pub stored_is : store.mapping ≡ Some text
  pub refused : (mapping : Mapping) → read_mapping text ≡ Ok mapping → ⊥
  pub is : damage ≡ mapping_damage

-- the first of the rules of the sealed windows, the open one, the raw tables and the snapshots that a store breaks
abbrev pub BreaksForm : Hashes → ℕ → Mapping → Store → Damage → Type 0
BreaksForm hashes width mapping store damage = form_damage mapping hashes width store ≡ Some damage

-- F15, which is asked last: none of these is broken, and the open window has no place
pub record BreaksOpen (hashes : Hashes) (width : ℕ) (mapping : Mapping) (store : Store) (damage : Damage) : Type 0 where
  pub undamaged : form_damage mapping hashes width store ≡ None
  pub stops : KeepsF15 hashes mapping store → ⊥
  pub is : damage ≡ broken_window

-- the first rule behind that of the mapping that a store breaks
abbrev pub BreaksRule : Hashes → ℕ → Mapping → Store → Damage → Type 0
BreaksRule hashes width mapping store damage = BreaksForm hashes width mapping store damage ⊎ BreaksOpen hashes width mapping store damage

-- the first damage of a store; one without a mapping has none
abbrev pub IsFirstDamage : Hashes → ℕ → Store → Damage → Type 0
IsFirstDamage hashes width store damage =
    IsNotRead store damage ⊎ ((mapping : Mapping) × IsReadAs mapping store × BreaksRule hashes width mapping store damage)

-- ---- damage of a store that is not told

-- the names of what stands beside the raw tables
abbrev pub IsBesideTables : List ℕ → Type 0
IsBesideTables name = (name ≡ codes "mapping") ⊎ (name ≡ codes "windows") ⊎ (name ≡ codes "stage") ⊎ (name ≡ codes "snapshots")

-- the name of a raw table of the mapping
abbrev pub IsTableName : Mapping → List ℕ → Type 0
IsTableName mapping name = (id : TableId) × IsTrue (is_table_of mapping id) × (name ≡ table_name mapping id)

-- a rule of form has a number from 1 to 15
abbrev pub IsFormRule : ℕ → Type 0
IsFormRule rule = (1 ≤ rule) × (rule ≤ 15)

-- a damage names a place that a store of the mapping may have, its rows counted from 1, and a rule of form
pub record IsNamed (mapping : Mapping) (damage : Damage) : Type 0 where
  pub table_is : IsBesideTables damage.table ⊎ IsTableName mapping damage.table
  pub counted : 1 ≤ damage.row
  pub numbered : IsFormRule damage.rule

-- and where the mapping is not told either, of some mapping
abbrev pub IsNamedBySome : Damage → Type 0
IsNamedBySome damage = (damage ≡ mapping_damage) ⊎ ((mapping : Mapping) × IsNamed mapping damage)
