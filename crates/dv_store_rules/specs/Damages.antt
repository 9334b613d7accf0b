-- The first row of a store that breaks a rule of form of its sealed windows, its open window, its raw tables or its
-- snapshots: where the store can't stand for a state of the warehouse.
use Rattle.std.specs.Option.{option_map, option_to_list}
use Rattle.std.specs.Prelude.{ℕ, List, [], ◌∷◌, ◌++◌, Option, Some, None, codes, map}
use Rattle.dv_text.specs.declared.rows.Window.{Window}
use Rattle.dv_text.specs.Keys.{Hashes}
use Rattle.dv_catalog.specs.declared.tables.TableId.{TableId}
use Rattle.dv_catalog.specs.Entries.{Mapping}
use Rattle.dv_catalog.specs.FirstOf.{first_along, first_of}
use Rattle.dv_catalog.specs.Tables.{table_name, tables}
use Rattle.dv_records.specs.declared.answers.Damage.{Damage}
use Rattle.dv_records.specs.declared.stores.Store.{Store}
use Rattle.dv_records.specs.declared.stores.TableRows.{TableRows}
use Rattle.dv_records.specs.States.{head_of}
use Rattle.dv_records.specs.Stores.{rows_in}
use Rattle.dv_store_rules.specs.declared.flaws.Flaw.{Flaw}
use Rattle.dv_store_rules.specs.Flaws.{if_broken}
use Rattle.dv_store_rules.specs.FormRules.{Known}
use Rattle.dv_store_rules.specs.SnapshotHeads.{snapshot_flaw, snapshot_heads}
use Rattle.dv_store_rules.specs.StoredHeads.{head_flaw, is_stage}
use Rattle.dv_store_rules.specs.StoredRows.{flaw_in}

-- a flaw of a table, by the table's name
abbrev pub damage_at : List ℕ → Flaw → Damage
damage_at table flaw = record { table = table; row = flaw.row; rule = flaw.rule }

-- ---- sealed windows and the open one

-- the first sealed window of a store whose head breaks a rule
abbrev pub head_damage : Mapping → Store → Option Damage
head_damage mapping store = option_map (damage_at (codes "windows")) (head_flaw mapping store.windows)

-- a rule that the open window breaks, if there is one
abbrev pub stage_damage_by : (Window → Option ℕ) → Option Window → Option Damage
stage_damage_by rule_of None = None
stage_damage_by rule_of (Some window) = option_map (λ rule. damage_at (codes "stage") (record { row = 1; rule = rule })) (rule_of window)

-- the open window of a store, where it breaks F3
abbrev pub stage_damage : Mapping → Store → Option Damage
stage_damage mapping store = stage_damage_by (λ window. if_broken 3 (is_stage mapping store.windows window)) store.stage

-- ---- the raw tables

-- some tables with their rows in a store
abbrev pub stored_entries : Store → List TableId → List TableRows
stored_entries store ids = map (λ id. record { table = id; rows = rows_in id store.tables }) ids

-- what is read of a store before a raw table, where these tables are read before it
abbrev pub known_before : Mapping → Hashes → ℕ → Store → List TableId → Known
known_before mapping hashes width store before = record {
  mapping = mapping;
  hashes = hashes;
  width = width;
  heads = store.windows ++ map head_of (option_to_list store.stage);
  tables = stored_entries store before;
}

-- the first row of a store's raw table that breaks a rule, behind the tables before it
abbrev pub damage_in : Mapping → Hashes → ℕ → Store → List TableId → TableId → Option Damage
damage_in mapping hashes width store before id =
    option_map (damage_at (table_name mapping id)) (flaw_in (known_before mapping hashes width store before) id (rows_in id store.tables))

-- the first row of the raw tables, in table order, that breaks a rule
abbrev pub raw_damage : Mapping → Hashes → ℕ → Store → Option Damage
raw_damage mapping hashes width store = first_along (damage_in mapping hashes width store) [] (tables mapping)

-- ---- the snapshots

-- the first snapshot of a store whose head breaks a rule
abbrev pub snapshot_damage : Store → Option Damage
snapshot_damage store =
    option_map (damage_at (codes "snapshots")) (snapshot_flaw store.windows (snapshot_heads store))

-- ---- all of these

-- the first damage of the sealed windows, the open window, the raw tables in table order, and the snapshots
abbrev pub form_damage : Mapping → Hashes → ℕ → Store → Option Damage
form_damage mapping hashes width store =
    first_of
    (head_damage mapping store ∷ stage_damage mapping store ∷ raw_damage mapping hashes width store ∷ snapshot_damage store ∷ [])
