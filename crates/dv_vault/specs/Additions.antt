-- What a window adds to a vault, or the collision that keeps it from it; and a window that tables have some rows of already.
use Rattle.std.specs.Prelude.{◌≡◌, ℕ, ◌+◌, ◌≤◌, true, List, [], ◌∷◌, ◌++◌, None, All, drop, length, map, sum_by, take}
use Rattle.std.specs.List.{AllZip}
use Rattle.dv_text.specs.declared.rows.Window.{Window}
use Rattle.dv_text.specs.Keys.{Hashes}
use Rattle.dv_catalog.specs.declared.tables.TableId.{TableId}
use Rattle.dv_catalog.specs.Entries.{Mapping}
use Rattle.dv_catalog.specs.TableLookups.{is_table_of}
use Rattle.dv_catalog.specs.Tables.{tables}
use Rattle.dv_records.specs.declared.deliveries.DeltaFault.{DeltaFault}
use Rattle.dv_records.specs.declared.deliveries.DeltaFault.TheVariants as delta
use Rattle.dv_records.specs.declared.stores.Rows.{Rows}
use Rattle.dv_records.specs.declared.stores.Rows.TheVariants.{Hubs, Links, Sats, Multis, Statuses, Effects, Pits, Bridges}
use Rattle.dv_records.specs.declared.stores.TableRows.{TableRows}
use Rattle.dv_records.specs.Collisions.{Pair}
use Rattle.dv_records.specs.Deltas.{HasNoClash, IsLeastClash}
use Rattle.dv_records.specs.HubNames.{HubName}
use Rattle.dv_records.specs.Outcomes.{late_after}
use Rattle.dv_records.specs.RowViews.{AreOfLoad}
use Rattle.dv_records.specs.States.{head_of, is_window, last_sealed}
use Rattle.dv_records.specs.Loads.{loaded}
use Rattle.dv_records.specs.Backwards.{backwards}
use Rattle.dv_records.specs.Stores.{is_of_kind, no_rows, row_count, rows_then}
use Rattle.dv_records.specs.Vault.{table_batch}
use Rattle.dv_records.specs.Weights.{rows_weight, tables_weight, vault_weight}
use Rattle.dv_vault.specs.declared.begun.Begun.{Begun}
use Rattle.dv_vault.specs.declared.begun.Part.{Part}
use Rattle.dv_vault.specs.declared.additions.AdditionFault.{AdditionFault}
use Rattle.dv_vault.specs.declared.additions.AdditionFault.TheVariants as fault
use Rattle.dv_vault.specs.Vaults.{Follow, added_to, RawVault, entries_with, hashed_in, hub_names}

-- ---- collisions

-- no hub and no link among tables has two lists with one hash key
abbrev pub AreApartBy : Mapping → Hashes → List HubName → Window → List TableRows → Type 0
AreApartBy mapping hashes names window tables = All (λ entry. HasNoClash (hashed_in mapping hashes names window entry)) tables

abbrev pub AreApart : Hashes → RawVault → Window → Type 0
AreApart hashes raw window = AreApartBy raw.mapping hashes (hub_names raw.mapping raw.tables) window raw.tables

-- the first table with a collision, and the least pair there
pub record IsFirstClash (mapping : Mapping) (hashes : Hashes) (names : List HubName) (window : Window) (tables : List TableRows) (table : TableId) (pair : Pair) : Type 0 where
  pub before : List TableRows
  pub entry : TableRows
  pub behind : List TableRows
  pub split : tables ≡ before ++ entry ∷ behind
  pub is_table : entry.table ≡ table
  pub declared : is_table_of mapping table ≡ true
  pub none_before : AreApartBy mapping hashes names window before
  pub is : IsLeastClash (hashed_in mapping hashes names window entry) pair

-- a fault of the rows of a table
abbrev pub fault_at : TableId → DeltaFault → AdditionFault
fault_at table (delta.Collision first second) = fault.Collision table first second
fault_at table delta.Memory = fault.Memory

-- why there are no rows that a window adds to tables
abbrev pub ClashesAt : Mapping → Hashes → List HubName → Window → List TableRows → AdditionFault → Type 0
ClashesAt mapping hashes names window tables (fault.Collision table first second) =
    IsFirstClash mapping hashes names window tables table (record { first = first; second = second })
ClashesAt mapping hashes names window tables fault.Memory = Unit {0}

abbrev pub Clashes : Hashes → RawVault → Window → AdditionFault → Type 0
Clashes hashes raw window why = ClashesAt raw.mapping hashes (hub_names raw.mapping raw.tables) window raw.tables why

-- ---- what a window adds

-- what a window adds to each table
abbrev pub all_added : Hashes → RawVault → Window → List Rows
all_added hashes raw window = map (added_to raw.mapping hashes window) raw.tables

-- what the vault weighs with it
abbrev pub weight_with : Hashes → RawVault → Window → ℕ
weight_with hashes raw window = tables_weight raw.tables + sum_by rows_weight (all_added hashes raw window)

-- batches may stand behind the rows of tables, and have a load date
pub record FollowAll (load : ℕ) (tables : List TableRows) (batches : List Rows) : Type 0 where
  pub follow : AllZip Follow (map (λ entry. entry.rows) tables) batches
  pub stamped : All (λ rows. AreOfLoad load rows) batches

-- ---- the parts of a window: the rows of it that tables have, and those that they lack

-- the rows that are there, by table
abbrev pub opened_in : List Part → List Rows
opened_in parts = map (λ part. part.opened) parts

-- the rows that are lacking
abbrev pub rest_in : List Part → List Rows
rest_in parts = map (λ part. part.rest) parts

-- all rows of a part
abbrev pub whole_part : Part → Rows
whole_part part = rows_then part.opened part.rest

-- all rows of the window
abbrev pub whole_in : List Part → List Rows
whole_in parts = map whole_part parts

-- no rows, of the kind of these
abbrev pub none_like : Rows → Rows
none_like (Hubs rows) = Hubs []
none_like (Links rows) = Links []
none_like (Sats rows) = Sats []
none_like (Multis rows) = Multis []
none_like (Statuses rows) = Statuses []
none_like (Effects rows) = Effects []
none_like (Pits rows) = Pits []
none_like (Bridges rows) = Bridges []

-- a part whose rows are all there
abbrev pub taken_part : Part → Part
taken_part part = record { opened = whole_part part; rest = none_like part.rest }

-- parts of which the first k tables have got what they lacked
abbrev pub taken_first : ℕ → List Part → List Part
taken_first k parts = map taken_part (take k parts) ++ drop k parts

-- a part is of a table's kind
pub record IsPartOf (entry : TableRows) (part : Part) : Type 0 where
  pub rows : is_of_kind entry.table entry.rows ≡ true
  pub opened : is_of_kind entry.table part.opened ≡ true
  pub rest : is_of_kind entry.table part.rest ≡ true

-- one part for each table, of its kind
abbrev pub ArePartsOf : List TableRows → List Part → Type 0
ArePartsOf entries parts = AllZip IsPartOf entries parts

-- tables with the rows of a window that are there, and with all of them
abbrev pub tables_there : List TableRows → List Part → List TableRows
tables_there entries parts = entries_with entries (opened_in parts)

abbrev pub tables_whole : List TableRows → List Part → List TableRows
tables_whole entries parts = entries_with entries (whole_in parts)

-- the vault with the rows that are there
abbrev pub vault_there : RawVault → Begun → RawVault
vault_there raw begun = record raw { tables = tables_there raw.tables begun.parts.items }

-- ---- windows that are begun

-- a vault may grow by a window: it is one of the mapping and later than all sealed ones, its parts are those of the
-- tables, its rows may stand behind those of the tables, and its weight is what these weigh then
pub record Fits (raw : RawVault) (begun : Begun) : Type 0 where
  pub window : is_window raw.mapping begun.window ≡ true
  pub parts : ArePartsOf raw.tables begun.parts.items
  pub follow : FollowAll begun.window.load raw.tables (whole_in begun.parts.items)
  pub later : late_after (last_sealed raw.heads) begun.window.load ≡ None
  pub weight : begun.weight ≡ tables_weight (tables_whole raw.tables begun.parts.items)

-- a window that is to be opened: no table has rows of it, each lacks what it adds to it, and nothing collides
pub record IsAddition (hashes : Hashes) (raw : RawVault) (window : Window) (begun : Begun) : Type 0 where
  pub window_is : begun.window ≡ window
  pub none_there : opened_in begun.parts.items ≡ map (λ entry. no_rows entry.table) raw.tables
  pub rest_is : rest_in begun.parts.items ≡ all_added hashes raw window
  pub apart : AreApart hashes raw window
  pub rows_are : begun.rows ≡ sum_by row_count (rest_in begun.parts.items)
  pub weight_is : begun.weight ≡ weight_with hashes raw window

-- a vault with all of a window
abbrev pub raw_with : Begun → RawVault → RawVault
raw_with begun raw = record {
  mapping = raw.mapping;
  tables = tables_whole raw.tables begun.parts.items;
  heads = raw.heads ++ head_of begun.window ∷ [];
}

-- ---- the open window of a state

-- a batch that a table has, and one that it lacks
abbrev pub part_there : Rows → Part
part_there batch = record { opened = batch; rest = none_like batch }

abbrev pub part_lacking : Rows → Part
part_lacking batch = record { opened = none_like batch; rest = batch }

-- the parts of a window whose batches the first k tables have
abbrev pub parts_at : ℕ → List Rows → List Part
parts_at k batches = map part_there (take k batches) ++ map part_lacking (drop k batches)

-- the batches of a window behind sealed ones, in table order
abbrev pub window_batches : Mapping → Hashes → List Window → Window → List Rows
window_batches mapping hashes sealed window = map (λ table. table_batch mapping hashes table (backwards sealed) window) (tables mapping)

-- what is begun is a window behind sealed ones, whose batches some first tables have
pub record IsBegunBehind (mapping : Mapping) (hashes : Hashes) (sealed : List Window) (window : Window) (begun : Begun) : Type 0 where
  pub window_is : begun.window ≡ window
  pub there : ℕ
  pub within : there ≤ length (tables mapping)
  pub parts_are : begun.parts.items ≡ parts_at there (window_batches mapping hashes sealed window)
  pub rows_are : begun.rows ≡ loaded mapping hashes sealed window
  pub weight_is : begun.weight ≡ vault_weight mapping hashes (sealed ++ window ∷ [])
