-- Laws of the definitions.
use Rattle.std.specs.List.{flat_map}
use Rattle.std.specs.List.Sorted.{IsStrictlySortedBy}
use Rattle.std.specs.Prelude.{◌≡◌, ℕ, ◌+◌, ◌<◌, ◌≤◌, true, All, Contains, List, [], ◌∷◌, ◌++◌, None, Some, length, map, sum_by}
use Rattle.dv_text.specs.declared.rows.Key.{Key}
use Rattle.dv_text.specs.declared.rows.Window.{Window}
use Rattle.dv_text.specs.Keys.{Hashes}
use Rattle.dv_catalog.specs.declared.entries.Parent.TheVariants.{Hub, Link}
use Rattle.dv_catalog.specs.declared.tables.TableId.{TableId}
use Rattle.dv_catalog.specs.declared.tables.TableId.TheVariants.{Hub as HubTable, Link as LinkTable, Sat, Multi, Status, Effect}
use Rattle.dv_catalog.specs.Entries.{Mapping}
use Rattle.dv_catalog.specs.Tables.{tables}
use Rattle.dv_records.specs.declared.raw_rows.Code.TheVariants.{D}
use Rattle.dv_records.specs.declared.raw_rows.HubRow.{HubRow}
use Rattle.dv_records.specs.declared.raw_rows.LinkRow.{LinkRow}
use Rattle.dv_records.specs.declared.stores.Rows.{Rows}
use Rattle.dv_records.specs.declared.stores.Rows.TheVariants.{Hubs, Links}
use Rattle.dv_records.specs.Collisions.{IsApart}
use Rattle.dv_records.specs.Deliveries.{is_known, offered_refs}
use Rattle.dv_records.specs.Effects.{effect_batch, effect_cmp}
use Rattle.dv_records.specs.History.{Extract, all_refs, content, delivers, extract_of, newest_rows, IsInLoadOrder}
use Rattle.dv_records.specs.Hubs.{each_hash, hub_batch, hub_cmp, link_batch, link_cmp}
use Rattle.dv_records.specs.Loads.{loaded}
use Rattle.dv_records.specs.Marts.{feed_mart, hub_mart, path_mart, period_mart}
use Rattle.dv_records.specs.RowViews.{AddsUp, are_of_one_kind}
use Rattle.dv_records.specs.Runs.{run_begin}
use Rattle.dv_records.specs.Satellites.{multi_batch, multi_cmp, sat_batch, sat_cmp}
use Rattle.dv_records.specs.Snapshots.{snapshot}
use Rattle.dv_records.specs.Statuses.{status_batch, status_cmp}
use Rattle.dv_records.specs.Stores.{row_count, rows_in, rows_then}
use Rattle.dv_records.specs.Vault.{HoldsTable, partial, table_after, table_batch, vault}
use Rattle.dv_records.specs.Weights.{rows_weight, vault_weight}
use Rattle.dv_records.specs.Backwards.{backwards}

-- ---- windows

-- before the first window there is no content
abbrev pub EmptyBefore : Type 0
EmptyBefore =
    (feed : ℕ) (sealed : List Window) (date : ℕ) → All (λ window. date < window.load) sealed → content feed sealed date ≡ []

-- two lists of windows say the same of a feed: its content and its periods at each date, and its tables
pub record SameOfFeed (mapping : Mapping) (hashes : Hashes) (feed : ℕ) (before after : List Window) : Type 0 where
  pub contents : (date : ℕ) → content feed after date ≡ content feed before date
  pub periods : (date : ℕ) → period_mart after feed date ≡ period_mart before feed date
  pub sat : table_after mapping hashes (backwards after) (Sat feed) ≡ table_after mapping hashes (backwards before) (Sat feed)
  pub multi : table_after mapping hashes (backwards after) (Multi feed) ≡ table_after mapping hashes (backwards before) (Multi feed)
  pub status : table_after mapping hashes (backwards after) (Status feed) ≡ table_after mapping hashes (backwards before) (Status feed)
  pub effect : table_after mapping hashes (backwards after) (Effect feed) ≡ table_after mapping hashes (backwards before) (Effect feed)

-- a window without a feed leaves the feed's content and its tables alone
abbrev pub AbsentLeaves : Type 0
AbsentLeaves =
    (mapping : Mapping) (hashes : Hashes) (feed : ℕ) (sealed : List Window) (next : Window)
    → extract_of feed next ≡ None → SameOfFeed mapping hashes feed sealed (sealed ++ next ∷ [])

-- two lists of windows say the same at a date: all marts, and the snapshot
pub record SameAt (mapping : Mapping) (hashes : Hashes) (date : ℕ) (before after : List Window) : Type 0 where
  pub feeds : (feed : ℕ) → feed_mart after feed date ≡ feed_mart before feed date
  pub hubs : (hub : ℕ) → hub_mart mapping after hub date ≡ hub_mart mapping before hub date
  pub paths : (path : ℕ) → path_mart mapping after path date ≡ path_mart mapping before path date
  pub periods : (feed : ℕ) → period_mart after feed date ≡ period_mart before feed date
  pub snapshots : snapshot mapping hashes after date ≡ snapshot mapping hashes before date

-- a window that is later than a date changes no mart and no snapshot at it
abbrev pub LaterLeaves : Type 0
LaterLeaves =
    (mapping : Mapping) (hashes : Hashes) (sealed : List Window) (next : Window) (date : ℕ)
    → date < next.load → SameAt mapping hashes date sealed (sealed ++ next ∷ [])

-- ---- rows

-- rows of one kind add up
abbrev pub RowsAddUp : Type 0
RowsAddUp = (a b : Rows) → are_of_one_kind a b ≡ true → AddsUp a b

-- ---- the vault

-- the vault has each table of the mapping as it is after the windows, and no other
abbrev pub VaultHolds : Type 0
VaultHolds = (mapping : Mapping) (hashes : Hashes) (sealed : List Window) (table : TableId) → HoldsTable mapping hashes sealed table

-- a window's batch is put at the end of the rows that the vault has of a table
abbrev pub TableGrows : Type 0
TableGrows =
    (mapping : Mapping) (hashes : Hashes) (sealed : List Window) (next : Window) (table : TableId)
    → Contains (tables mapping) table
    → rows_in table (vault mapping hashes (sealed ++ next ∷ []))
    ≡ rows_then (rows_in table (vault mapping hashes sealed)) (table_batch mapping hashes table (backwards sealed) next)

-- the vault of windows and one more is, table by table, the vault of the windows followed by the batch of the one
abbrev pub VaultGrows : Type 0
VaultGrows =
    (mapping : Mapping) (hashes : Hashes) (sealed : List Window) (next : Window)
    → vault mapping hashes (sealed ++ next ∷ [])
    ≡ map
    (λ table. record { table = table; rows = rows_then (table_after mapping hashes (backwards sealed) table) (table_batch mapping hashes table (backwards sealed) next) })
    (tables mapping)

-- the vault's weight grows by what the batches of the window weigh
abbrev pub WeightGrows : Type 0
WeightGrows =
    (mapping : Mapping) (hashes : Hashes) (sealed : List Window) (next : Window)
    → vault_weight mapping hashes (sealed ++ next ∷ [])
    ≡ vault_weight mapping hashes sealed + sum_by (λ table. rows_weight (table_batch mapping hashes table (backwards sealed) next)) (tables mapping)

-- and its number of rows by that of the rows that the window loads
abbrev pub RowsGrow : Type 0
RowsGrow =
    (mapping : Mapping) (hashes : Hashes) (sealed : List Window) (next : Window)
    → sum_by (λ entry. row_count entry.rows) (vault mapping hashes (sealed ++ next ∷ []))
    ≡ sum_by (λ entry. row_count entry.rows) (vault mapping hashes sealed) + loaded mapping hashes sealed next

-- while a window is loaded: where no table has its batch, the tables are the vault before it, and where all have it, the
-- vault with it
pub record PartialEnds (mapping : Mapping) (hashes : Hashes) (sealed : List Window) (next : Window) : Type 0 where
  pub none : partial mapping hashes sealed next 0 ≡ vault mapping hashes sealed
  pub all : partial mapping hashes sealed next (length (tables mapping)) ≡ vault mapping hashes (sealed ++ next ∷ [])

-- the same of all windows
abbrev pub PartialGrows : Type 0
PartialGrows = (mapping : Mapping) (hashes : Hashes) (sealed : List Window) (next : Window) → PartialEnds mapping hashes sealed next

-- ---- hubs and links

-- rows of a hub: each is of a key that one of the windows brings, and each such key has one
pub record HoldsKeys (mapping : Mapping) (hashes : Hashes) (hub : ℕ) (windows : List Window) (rows : List HubRow) : Type 0 where
  pub only : (row : HubRow) → Contains rows row → (is_known mapping (Hub hub) windows (row.key ∷ []) ≡ true) × (row.digest ≡ hashes.hash (row.key ∷ []))
  pub each : (key : Key) → is_known mapping (Hub hub) windows (key ∷ []) ≡ true → (row : HubRow) × Contains rows row × (row.key ≡ key) × (row.digest ≡ hashes.hash (key ∷ []))

-- rows of a link: each is of a reference list that one of the windows brings, and each such list has one
pub record HoldsLists (mapping : Mapping) (hashes : Hashes) (link : ℕ) (windows : List Window) (rows : List LinkRow) : Type 0 where
  pub only : (row : LinkRow) → Contains rows row → (refs : List Key) × (is_known mapping (Link link) windows refs ≡ true) × (row.digest ≡ hashes.hash refs) × (row.hubs ≡ each_hash hashes refs)
  pub each : (refs : List Key) → is_known mapping (Link link) windows refs ≡ true → (row : LinkRow) × Contains rows row × (row.digest ≡ hashes.hash refs) × (row.hubs ≡ each_hash hashes refs)

-- a hub's table after windows, of which the newest stands first, holds the keys that they bring, where no two of these
-- have one hash key
abbrev pub HubHolds : Type 0
HubHolds =
    (mapping : Mapping) (hashes : Hashes) (hub : ℕ) (windows : List Window) (rows : List HubRow)
    → table_after mapping hashes (record { windows = windows }) (HubTable hub) ≡ Hubs rows → IsApart hashes (flat_map (offered_refs mapping (Hub hub)) windows)
    → HoldsKeys mapping hashes hub windows rows

-- and a link's table holds the reference lists that they bring
abbrev pub LinkHolds : Type 0
LinkHolds =
    (mapping : Mapping) (hashes : Hashes) (link : ℕ) (windows : List Window) (rows : List LinkRow)
    → table_after mapping hashes (record { windows = windows }) (LinkTable link) ≡ Links rows → IsApart hashes (flat_map (offered_refs mapping (Link link)) windows)
    → HoldsLists mapping hashes link windows rows

-- ---- batches

-- the rows of a window's batches for a hub and a link ascend strictly
pub record WindowBatchesAscend (mapping : Mapping) (hashes : Hashes) (place : ℕ) (older : List Window) (window : Window) : Type 0 where
  pub hub : IsStrictlySortedBy hub_cmp (hub_batch mapping hashes place older window)
  pub link : IsStrictlySortedBy link_cmp (link_batch mapping hashes place older window)

-- and the rows of an extract's batches
pub record ExtractBatchesAscend (hashes : Hashes) (source : List ℕ) (older : List Extract) (newest : Extract) : Type 0 where
  pub sat : IsStrictlySortedBy sat_cmp (sat_batch hashes source older newest)
  pub multi : IsStrictlySortedBy multi_cmp (multi_batch hashes source older newest)
  pub status : IsStrictlySortedBy status_cmp (status_batch hashes source older newest)
  pub effect : IsStrictlySortedBy effect_cmp (effect_batch hashes source older newest)

-- so the rows of all batches do
abbrev pub BatchesAscend : Type 0
BatchesAscend =
    ((mapping : Mapping) (hashes : Hashes) (place : ℕ) (older : List Window) (window : Window) → WindowBatchesAscend mapping hashes place older window)
    × ((hashes : Hashes) (source : List ℕ) (older : List Extract) (newest : Extract) → ExtractBatchesAscend hashes source older newest)

-- an extract that is a header alone closes what was present: a D row for each parent, and a closing row with the begin
-- of its run, and no other row
pub record Closes (hashes : Hashes) (source : List ℕ) (load : ℕ) (older : List Extract) : Type 0 where
  pub vanished : (refs : List Key) → delivers (newest_rows older) refs ≡ true
      → Contains (status_batch hashes source older (record { load = load; rows = [] })) (record { parent = hashes.hash refs; load = load; source = source; code = D })
  pub only_vanished : All (λ row. row.code ≡ D) (status_batch hashes source older (record { load = load; rows = [] }))
  pub ended : IsApart hashes (all_refs (newest_rows older)) → (refs : List Key) → delivers (newest_rows older) refs ≡ true
      → (begin : ℕ) × (run_begin older refs ≡ Some begin)
      × Contains (effect_batch hashes source older (record { load = load; rows = [] })) (record { parent = hashes.hash refs; load = load; source = source; begin = begin; end = load })
  pub only_ended : All (λ row. row.end ≡ load) (effect_batch hashes source older (record { load = load; rows = [] }))
  pub no_sat : sat_batch hashes source older (record { load = load; rows = [] }) ≡ []
  pub no_multi : multi_batch hashes source older (record { load = load; rows = [] }) ≡ []

-- after any extracts
abbrev pub HeaderCloses : Type 0
HeaderCloses = (hashes : Hashes) (source : List ℕ) (load : ℕ) (older : List Extract) → Closes hashes source load older

-- ---- marts

-- at a date, two lists of windows have the same marts of feeds, hubs and paths
pub record SameMarts (mapping : Mapping) (date : ℕ) (a b : List Window) : Type 0 where
  pub feeds : (feed : ℕ) → feed_mart a feed date ≡ feed_mart b feed date
  pub hubs : (hub : ℕ) → hub_mart mapping a hub date ≡ hub_mart mapping b hub date
  pub paths : (path : ℕ) → path_mart mapping a path date ≡ path_mart mapping b path date

-- these marts are decided by the contents at the date
abbrev pub ContentsDecide : Type 0
ContentsDecide =
    (mapping : Mapping) (date : ℕ) (a b : List Window)
    → ((feed : ℕ) → content feed a date ≡ content feed b date) → SameMarts mapping date a b

-- a period mart is decided by the contents at each date up to its date, where load dates ascend
abbrev pub ContentsDecidePeriods : Type 0
ContentsDecidePeriods =
    (feed : ℕ) (date : ℕ) (a b : List Window)
    → IsInLoadOrder a → IsInLoadOrder b → ((t : ℕ) → t ≤ date → content feed a t ≡ content feed b t)
    → period_mart a feed date ≡ period_mart b feed date
