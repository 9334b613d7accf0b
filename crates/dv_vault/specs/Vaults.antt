-- The tables of a vault with their rows, and what a window adds to each, told from the rows alone.
use Rattle.std.specs.Prelude.{◌≡◌, ℕ, ◌==◌, nat_lt, Bool, true, false, List, [], ◌∷◌, Option, find, length, map}
use Rattle.std.specs.List.{enumerate_from, flat_map, list_all, list_any, range_with_len}
use Rattle.std.specs.Option.{option_map_or}
use Rattle.dv_text.specs.declared.rows.Staged.{Staged}
use Rattle.dv_text.specs.declared.rows.Window.{Window}
use Rattle.dv_text.specs.declared.rows.WindowHead.{WindowHead}
use Rattle.dv_text.specs.Keys.{Hashes}
use Rattle.dv_catalog.specs.declared.entries.Parent.{Parent}
use Rattle.dv_catalog.specs.declared.entries.Parent.TheVariants.{Hub, Link}
use Rattle.dv_catalog.specs.declared.tables.TableId.{TableId}
use Rattle.dv_catalog.specs.declared.tables.TableId.TheVariants as ids
use Rattle.dv_catalog.specs.Entries.{Mapping}
use Rattle.dv_catalog.specs.Feeds.{source}
use Rattle.dv_catalog.specs.Tables.{tables}
use Rattle.dv_records.specs.declared.raw_rows.HubRow.{HubRow}
use Rattle.dv_records.specs.declared.stores.Rows.{Rows}
use Rattle.dv_records.specs.declared.stores.Rows.TheVariants.{Effects, Hubs, Links, Multis, Sats, Statuses}
use Rattle.dv_records.specs.declared.stores.TableRows.{TableRows}
use Rattle.dv_records.specs.Deliveries.{deliveries}
use Rattle.dv_records.specs.Deltas.{Hashed}
use Rattle.dv_records.specs.History.{extract_of}
use Rattle.dv_records.specs.HubNames.{HubName}
use Rattle.dv_records.specs.ReadBack.{hub_rows_in}
use Rattle.dv_records.specs.RawTables.{extract_added}
use Rattle.dv_records.specs.RowViews.{are_up_to}
use Rattle.dv_records.specs.States.{are_windows_valid, head_of, last_sealed}
use Rattle.dv_records.specs.Stores.{no_rows, row_count, rows_then, table_eq}
use Rattle.dv_records.specs.Vault.{vault}
use Rattle.dv_hub_link.specs.HubDeltas.{hub_delta, hub_hashed}
use Rattle.dv_hub_link.specs.LinkDeltas.{link_delta, link_hashed}
use Rattle.dv_hub_link.specs.RawTables.{HubsFollow, LinksFollow}
use Rattle.dv_sat.specs.FeedTables.{Follow as SatsFollow, sats_added}
use Rattle.dv_sat.specs.MultiFeedTables.{Follow as MultisFollow, multis_added}
use Rattle.dv_track.specs.EffectFeedTables.{Follow as EffectsFollow, effects_added}
use Rattle.dv_track.specs.FeedTables.{Follow as StatusesFollow, statuses_added}
use Rattle.dv_vault.specs.declared.named_hubs.HubKeys.{HubKeys}
use Rattle.dv_vault.specs.declared.tables.Table.{Table}
use Rattle.dv_vault.specs.declared.raw_tables.RawTables.{RawTables}
use Rattle.dv_vault.specs.declared.tables.Table.TheVariants as table

-- a table with its rows
abbrev pub entry_of : Table → TableRows
entry_of (table.Hub hub rows) = record { table = ids.Hub hub; rows = Hubs rows.rows }
entry_of (table.Link link rows) = record { table = ids.Link link; rows = Links rows.rows }
entry_of (table.Sat feed rows) = record { table = ids.Sat feed; rows = Sats rows.rows }
entry_of (table.Multi feed rows) = record { table = ids.Multi feed; rows = Multis rows.rows }
entry_of (table.Status feed rows) = record { table = ids.Status feed; rows = Statuses rows.rows }
entry_of (table.Effect feed rows) = record { table = ids.Effect feed; rows = Effects rows.rows }

-- for how many more rows it has room
abbrev pub spare_of : Table → ℕ
spare_of (table.Hub hub rows) = rows.spare
spare_of (table.Link link rows) = rows.spare
spare_of (table.Sat feed rows) = rows.spare
spare_of (table.Multi feed rows) = rows.spare
spare_of (table.Status feed rows) = rows.spare
spare_of (table.Effect feed rows) = rows.spare

-- ---- hub keys

-- the keys of a hub's rows by their hash keys
abbrev pub names_of_hub : ℕ × List HubRow → List HubName
names_of_hub hub = map (λ row. record { hub = hub.0; digest = row.digest; key = row.key }) hub.1

-- the keys of hubs, which stand in declared order
abbrev pub names_of_rows : List (List HubRow) → List HubName
names_of_rows hubs = flat_map names_of_hub (enumerate_from 0 hubs)

-- the rows of hubs whose keys are looked up, and their names
abbrev pub rows_of_hubs : HubKeys → List (List HubRow)
rows_of_hubs keys = map (λ hub. hub.now.rows) keys.hubs.items

abbrev pub names_of_hubs : HubKeys → List HubName
names_of_hubs keys = names_of_rows (rows_of_hubs keys)

-- the rows of the hubs of a mapping, in declared order
abbrev pub hubs_in : Mapping → List TableRows → List (List HubRow)
hubs_in mapping tables = map (λ hub. hub_rows_in hub tables) (range_with_len 0 (length mapping.hubs))

-- the keys of the hubs of a mapping by their hash keys
abbrev pub hub_names : Mapping → List TableRows → List HubName
hub_names mapping tables = names_of_rows (hubs_in mapping tables)

-- ---- tables

-- a table is among tables
abbrev pub has_table : TableId → List TableRows → Bool
has_table id tables = list_any (λ entry. table_eq entry.table id) tables

-- the kinds of tables
abbrev pub is_hub : TableId → Bool
is_hub (ids.Hub n) = true
is_hub table = false

abbrev pub is_link : TableId → Bool
is_link (ids.Link n) = true
is_link table = false

abbrev pub is_sat : TableId → Bool
is_sat (ids.Sat n) = true
is_sat table = false

abbrev pub is_multi : TableId → Bool
is_multi (ids.Multi n) = true
is_multi table = false

abbrev pub is_status : TableId → Bool
is_status (ids.Status n) = true
is_status table = false

abbrev pub is_effect : TableId → Bool
is_effect (ids.Effect n) = true
is_effect table = false

-- a parent is a hub or a link of the mapping
abbrev pub is_parent : Mapping → Parent → Bool
is_parent mapping (Hub hub) = nat_lt hub (length mapping.hubs)
is_parent mapping (Link link) = nat_lt link (length mapping.links)

-- the extract of a feed in a window, with its feed
abbrev pub staged_of : ℕ → Window → Option Staged
staged_of feed window = find (λ staged. staged.feed == feed) window.extracts

-- ---- what a window adds

-- what a window adds to a table with these rows
abbrev pub added : Mapping → Hashes → Window → TableId → Rows → Rows
added mapping hashes window (ids.Hub hub) (Hubs rows) =
    Hubs (hub_delta mapping hashes window.load rows (deliveries mapping (Hub hub) window))
added mapping hashes window (ids.Link link) (Links rows) =
    Links (link_delta mapping hashes window.load rows (deliveries mapping (Link link) window))
added mapping hashes window (ids.Sat feed) (Sats rows) = extract_added (sats_added hashes (source mapping feed) (Sats rows)) (Sats []) (extract_of feed window)
added mapping hashes window (ids.Multi feed) (Multis rows) = extract_added (multis_added hashes (source mapping feed) (Multis rows)) (Multis []) (extract_of feed window)
added mapping hashes window (ids.Status feed) (Statuses rows) = extract_added (statuses_added hashes (source mapping feed) (Statuses rows)) (Statuses []) (extract_of feed window)
added mapping hashes window (ids.Effect feed) (Effects rows) = extract_added (effects_added hashes (source mapping feed) (Effects rows)) (Effects []) (extract_of feed window)
added mapping hashes window table rows = no_rows table

abbrev pub added_to : Mapping → Hashes → Window → TableRows → Rows
added_to mapping hashes window entry = added mapping hashes window entry.table entry.rows

-- what must have hash keys of its own in a table with these rows and a window: nothing but in hubs and links
abbrev pub hashed : Mapping → Hashes → List HubName → Window → TableId → Rows → List Hashed
hashed mapping hashes names window (ids.Hub hub) (Hubs rows) = hub_hashed mapping hashes rows (deliveries mapping (Hub hub) window)
hashed mapping hashes names window (ids.Link link) (Links rows) = link_hashed mapping hashes names rows (deliveries mapping (Link link) window)
hashed mapping hashes names window table rows = []

abbrev pub hashed_in : Mapping → Hashes → List HubName → Window → TableRows → List Hashed
hashed_in mapping hashes names window entry = hashed mapping hashes names window entry.table entry.rows

-- ---- what rows of a table keep to

-- rows may stand behind those of a table
abbrev pub Follow : Rows → Rows → Type 0
Follow (Hubs rows) more = HubsFollow (Hubs rows) more
Follow (Links rows) more = LinksFollow (Links rows) more
Follow (Sats rows) more = SatsFollow (Sats rows) more
Follow (Multis rows) more = MultisFollow (Multis rows) more
Follow (Statuses rows) more = StatusesFollow (Statuses rows) more
Follow (Effects rows) more = EffectsFollow (Effects rows) more
Follow rows more = ⊥

-- ---- a vault

-- raw tables with their rows
abbrev pub entries_of : RawTables → List TableRows
entries_of raw = map entry_of raw.tables.items

-- entries are those of the tables of a mapping, in table order
abbrev pub IsVaultOf : Mapping → List TableRows → Type 0
IsVaultOf mapping entries = map (λ entry. entry.table) entries ≡ tables mapping

-- what a vault has: the mapping, its raw tables with their rows, in table order, and the heads of the sealed windows, in order
pub record RawVault : Type 0 where
  pub mapping : Mapping
  pub tables : List TableRows
  pub heads : List WindowHead

-- a vault has these sealed windows, which are valid: their rows are in its tables, and it has their heads
pub record HasSealed (hashes : Hashes) (sealed : List Window) (raw : RawVault) : Type 0 where
  pub valid : are_windows_valid raw.mapping hashes sealed ≡ true
  pub tables_are : raw.tables ≡ vault raw.mapping hashes sealed
  pub heads_are : raw.heads ≡ map head_of sealed

-- no table has rows
abbrev pub are_empty : List TableRows → Bool
are_empty tables = list_all (λ entry. row_count entry.rows == 0) tables

-- no row is later than the last head; none where there is no head
abbrev pub are_rows_kept : List WindowHead → List TableRows → Bool
are_rows_kept heads tables = option_map_or (λ last. are_up_to last tables) (last_sealed heads) (are_empty tables)

-- the feeds of heads are in the mapping
abbrev pub are_heads_of : Mapping → List WindowHead → Bool
are_heads_of mapping heads = list_all (λ head. list_all (λ feed. nat_lt feed (length mapping.feeds)) head.feeds) heads

-- tables with the rows of batches behind theirs
abbrev pub entries_with : List TableRows → List Rows → List TableRows
entries_with [] batches = []
entries_with (entry ∷ entries) [] = entry ∷ entries
entries_with (entry ∷ entries) (rows ∷ batches) = record { table = entry.table; rows = rows_then entry.rows rows } ∷ entries_with entries batches
