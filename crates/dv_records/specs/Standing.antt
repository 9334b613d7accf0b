-- What a store stands for: a mapping, and a state of the warehouse.
use Rattle.std.specs.Prelude.{◌≡◌, ℕ, ◌≤◌, true, List, [], Option, Some, None, Ok, map, length}
use Rattle.dv_text.specs.declared.rows.Window.{Window}
use Rattle.dv_text.specs.Keys.{Hashes}
use Rattle.dv_catalog.specs.declared.tables.TableId.{TableId}
use Rattle.dv_catalog.specs.Entries.{Mapping}
use Rattle.dv_catalog.specs.MappingFiles.{read_mapping}
use Rattle.dv_catalog.specs.Tables.{tables}
use Rattle.dv_records.specs.declared.stores.Store.{Store}
use Rattle.dv_records.specs.declared.stores.TableRows.{TableRows}
use Rattle.dv_records.specs.Snapshots.{snapshot}
use Rattle.dv_records.specs.States.{State, head_of, is_valid_state}
use Rattle.dv_records.specs.Stores.{rows_in}
use Rattle.dv_records.specs.Vault.{partial, vault}

-- the store has these rows in each table, and none in any other
abbrev pub HasTables : Store → List TableRows → Type 0
HasTables store entries = (table : TableId) → rows_in table store.tables ≡ rows_in table entries

-- no window open: the tables are the vault. One open: its batch is in the first tables, for some number of them
abbrev pub TablesStand : Mapping → Hashes → List Window → Option Window → Store → Type 0
TablesStand mapping hashes sealed None store = HasTables store (vault mapping hashes sealed)
TablesStand mapping hashes sealed (Some window) store =
    (k : ℕ) × (k ≤ length (tables mapping)) × HasTables store (partial mapping hashes sealed window k)

-- the stored text is read as the mapping
pub record IsMappedBy (mapping : Mapping) (stored : Option (List ℕ)) : Type 0 where
  pub text : List ℕ
  pub stored_is : stored ≡ Some text
  pub reads : read_mapping text ≡ Ok mapping

-- the store stands for a mapping and a state, which is valid
pub record Stands (mapping : Mapping) (hashes : Hashes) (state : State) (store : Store) : Type 0 where
  pub valid : is_valid_state mapping hashes state ≡ true
  pub mapped : IsMappedBy mapping store.mapping
  pub windows : store.windows ≡ map head_of state.sealed
  pub stage : store.stage ≡ state.begun
  pub tables_stand : TablesStand mapping hashes state.sealed state.begun store
  pub snapshots : store.snapshots ≡ map (snapshot mapping hashes state.sealed) state.dates

-- the store has no mapping, stage, windows, rows or snapshots
pub record IsFresh (store : Store) : Type 0 where
  pub mapping : store.mapping ≡ None
  pub stage : store.stage ≡ None
  pub windows : store.windows ≡ []
  pub empty : HasTables store []
  pub snapshots : store.snapshots ≡ []
