-- How a keeper takes a window, and how the tables do.
use Rattle.std.specs.Prelude.{◌≡◌, ◌⊎◌, ℕ, ◌≤◌, ◌==◌, Bool, true, false, List, [], ◌∷◌, ◌++◌, Option, Some, None, if◌then◌else◌, length}
use Rattle.std.specs.List.{AllZip}
use Rattle.dv_text.specs.declared.rows.Window.{Window}
use Rattle.dv_text.specs.declared.rows.WindowHead.{WindowHead}
use Rattle.dv_text.specs.Told.{Told}
use Rattle.dv_catalog.specs.declared.tables.TableId.{TableId}
use Rattle.dv_records.specs.declared.keepers.KeeperError.{KeeperError}
use Rattle.dv_records.specs.declared.keepers.KeeperError.TheVariants.{Memory}
use Rattle.dv_records.specs.declared.stores.Rows.{Rows}
use Rattle.dv_records.specs.declared.stores.Store.{Store}
use Rattle.dv_records.specs.declared.stores.TableRows.{TableRows}
use Rattle.dv_records.specs.States.{head_of}
use Rattle.dv_records.specs.Stores.{row_count, rows_in, with_rows, with_stage}
use Rattle.dv_vault.specs.declared.begun.Begun.{Begun}
use Rattle.dv_vault.specs.declared.begun.Part.{Part}
use Rattle.dv_vault.specs.declared.breaks.Untaken.{Untaken}
use Rattle.dv_vault.specs.declared.tables.Table.{Table}
use Rattle.dv_vault.specs.Additions.{tables_there, tables_whole, taken_first}
use Rattle.dv_vault.specs.Vaults.{has_table, spare_of}

-- a store has these rows in each of these tables
abbrev pub HasRows : Store → List TableRows → Type 0
HasRows store entries = (table : TableId) → has_table table entries ≡ true → rows_in table store.tables ≡ rows_in table entries

-- tables that aren't among these have the rows that they had
abbrev pub KeepsOthers : List TableRows → Store → Store → Type 0
KeepsOthers entries before after = (table : TableId) → has_table table entries ≡ false → rows_in table after.tables ≡ rows_in table before.tables

-- what a store has beside its raw tables and its windows
abbrev pub beside_windows : Store → Store
beside_windows store = record store { tables = []; stage = None; windows = [] }

-- a store has this open window, these sealed ones and the rows of these tables, and nothing else has changed
pub record HasTaken (stage : Option Window) (heads : List WindowHead) (entries : List TableRows) (before after : Store) : Type 0 where
  pub tables_are : HasRows after entries
  pub others : KeepsOthers entries before after
  pub stage_is : after.stage ≡ stage
  pub windows_are : after.windows ≡ heads
  pub beside : beside_windows after ≡ beside_windows before

-- it has the rows of the tables
abbrev pub TookRows : List TableRows → Store → Store → Type 0
TookRows entries before after = HasTaken before.stage before.windows entries before after

-- it has them, and a window open
abbrev pub IsOpen : Window → List TableRows → Store → Store → Type 0
IsOpen window entries before after = HasTaken (Some window) before.windows entries before after

-- it has them, and the window's head behind its heads, and no window is open
abbrev pub TookWindow : Window → List TableRows → Store → Store → Type 0
TookWindow window entries before after = HasTaken None (before.windows ++ head_of window ∷ []) entries before after

-- a store that is told now was told before, and is to it as a relation says
abbrev pub Became : (Store → Store → Type 0) → Option Store → Option Store → Type 0
Became relation before after = Told after (λ now. (was : Store) × (before ≡ Some was) × relation was now)

abbrev pub TakesWindow : Window → List TableRows → Option Store → Option Store → Type 0
TakesWindow window entries before after = Became (TookWindow window entries) before after

-- a store after a batch was put behind the rows of a table: an empty one adds nothing
abbrev pub with_batch : TableId → Rows → Store → Store
with_batch table batch store = if row_count batch == 0 then store else with_rows table batch store

-- ---- a window that is open, or is to be opened

-- the window that is open, where it is
abbrev pub stage_of : Bool → Window → Option Window
stage_of true window = Some window
stage_of false window = None

-- a store after a window was opened, where it wasn't open
abbrev pub with_open : Bool → Window → Store → Store
with_open true window store = store
with_open false window store = with_stage window store

-- a store has the rows that are there of a window that is begun, which is open in it, or no window is
pub record IsBegunIn (is_open : Bool) (entries : List TableRows) (begun : Begun) (store : Store) : Type 0 where
  pub stage_is : store.stage ≡ stage_of is_open begun.window
  pub tables_are : HasRows store (tables_there entries begun.parts.items)

-- ---- where a keeper breaks off

-- some first tables have got what they lacked, and nothing else has changed
abbrev pub TookSome : List TableRows → List Part → Store → Store → Type 0
TookSome entries parts before after =
    (k : ℕ) × (k ≤ length parts) × TookRows (tables_there entries (taken_first k parts)) before after

-- parts that a keeper broke off to take: some first tables have got what they lacked, and what is left says how many; for
-- want of memory just as many in the keeper's store
pub record BreaksParts (entries : List TableRows) (parts : List Part) (before after : Option Store) (error : KeeperError) (left : List Part) : Type 0 where
  pub some : Became (TookSome entries parts) before after
  pub taken : ℕ
  pub within : taken ≤ length parts
  pub left_are : left ≡ taken_first taken parts
  pub exact : error ≡ Memory → Became (TookRows (tables_there entries left)) before after

-- a window that a keeper broke off to take: the store is as before, or has the window open and some first tables got what
-- they lacked, or has taken the window all the same
abbrev pub BrokeOff : List TableRows → Begun → Store → Store → Type 0
BrokeOff entries begun before after =
    (after ≡ before)
    ⊎ (((k : ℕ) × (k ≤ length begun.parts.items) × IsOpen begun.window (tables_there entries (taken_first k begun.parts.items)) before after)
    ⊎ TookWindow begun.window (tables_whole entries begun.parts.items) before after)

-- what is left of a window after some first tables have got what they lacked
pub record IsLeftOf (begun left : Begun) : Type 0 where
  pub window_is : left.window ≡ begun.window
  pub rows_are : left.rows ≡ begun.rows
  pub weight_is : left.weight ≡ begun.weight
  pub taken : ℕ
  pub within : taken ≤ length begun.parts.items
  pub parts_are : left.parts.items ≡ taken_first taken begun.parts.items

-- and where it was not opened, nothing is
abbrev pub MayBeLeft : Bool → Begun → Option Begun → Type 0
MayBeLeft is_open begun None = is_open ≡ false
MayBeLeft is_open begun (Some left) = IsLeftOf begun left

-- a store has the window that is left open, and the rows of it that are there; it is as before where nothing is left
abbrev pub HasLeft : List TableRows → Option Begun → Store → Store → Type 0
HasLeft entries None before after = after ≡ before
HasLeft entries (Some left) before after = IsOpen left.window (tables_there entries left.parts.items) before after

-- for want of memory the store has just what is left
pub record BreaksWindow (is_open : Bool) (entries : List TableRows) (begun : Begun) (before after : Option Store) (untaken : Untaken) : Type 0 where
  pub broke : Became (BrokeOff entries begun) before after
  pub left : MayBeLeft is_open begun untaken.begun
  pub exact : untaken.error ≡ Memory → Became (HasLeft entries untaken.begun) before after

-- ---- room

-- each table has room for its batch
abbrev pub HaveRoom : List Table → List Rows → Type 0
HaveRoom tables batches = AllZip (λ table rows. row_count rows ≤ spare_of table) tables batches
