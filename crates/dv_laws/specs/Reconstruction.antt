-- What the tables tell of what the windows delivered.
use Rattle.std.specs.Option.{option_map}
use Rattle.std.specs.Prelude.{◌≡◌, ℕ, ◌==◌, true, false, List, [], Some, None, length, map, slice_get, ◌↔◌, Contains, reverse}
use Rattle.dv_text.specs.declared.rows.Key.{Key}
use Rattle.dv_text.specs.declared.rows.NRow.{NRow}
use Rattle.dv_text.specs.declared.rows.Window.{Window}
use Rattle.dv_text.specs.Keys.{Hashes}
use Rattle.dv_catalog.specs.declared.entries.FeedDef.{FeedDef}
use Rattle.dv_catalog.specs.declared.entries.Parent.TheVariants.{Hub}
use Rattle.dv_catalog.specs.declared.tables.TableId.TheVariants.{Hub as HubTable, Sat, Multi, Status, Effect}
use Rattle.dv_catalog.specs.Entries.{Mapping}
use Rattle.dv_catalog.specs.Mappings.{is_valid}
use Rattle.dv_catalog.specs.Tables.{tables}
use Rattle.dv_records.specs.declared.raw_rows.HubRow.{HubRow}
use Rattle.dv_records.specs.declared.raw_rows.MultiRow.{MultiRow}
use Rattle.dv_records.specs.declared.raw_rows.SatRow.{SatRow}
use Rattle.dv_records.specs.declared.raw_rows.StatusRow.{StatusRow}
use Rattle.dv_records.specs.declared.stores.Rows.TheVariants.{Hubs, Sats, Multis, Statuses}
use Rattle.dv_records.specs.Collisions.{collision_in, IsApart}
use Rattle.dv_records.specs.History.{content, delivered_refs, delivers, history, up_to, IsInLoadOrder}
use Rattle.dv_records.specs.Marts.{period_mart}
use Rattle.dv_records.specs.ReadBack.{any_content_read, content_read, multi_content_read, periods_read}
use Rattle.dv_records.specs.Reconstruction.{first_attrs, HasKeysAlone, HasOneRowEach, HasOneRowPerSub, present_keys, all_valid_at, described_row, present_at, valid_at}
use Rattle.dv_records.specs.Satellites.{last_rows}
use Rattle.dv_records.specs.States.{are_windows_valid}
use Rattle.dv_records.specs.Vault.{table_after, vault}
use Rattle.dv_records.specs.Backwards.{backwards}

-- the status table of a feed says of each reference list, by its hash key, and at each date whether the feed's content
-- delivers it, where no other list that the windows deliver has its hash key
abbrev pub StatusTells : Type 0
StatusTells =
    (mapping : Mapping) (hashes : Hashes) (feed : ℕ) (sealed : List Window) (rows : List StatusRow)
    → table_after mapping hashes (backwards sealed) (Status feed) ≡ Statuses rows
    → IsInLoadOrder sealed → IsApart hashes (delivered_refs feed sealed)
    → (refs : List Key) → ((other : List Key) → Contains (delivered_refs feed sealed) other → hashes.hash other ≡ hashes.hash refs → other ≡ refs)
    → (date : ℕ) → present_at rows (hashes.hash refs) date ≡ delivers (content feed sealed date) refs

-- so it says so of each list that the windows deliver
abbrev pub DeliveredTells : Type 0
DeliveredTells =
    (mapping : Mapping) (hashes : Hashes) (feed : ℕ) (sealed : List Window) (rows : List StatusRow)
    → table_after mapping hashes (backwards sealed) (Status feed) ≡ Statuses rows
    → IsInLoadOrder sealed → IsApart hashes (delivered_refs feed sealed)
    → (refs : List Key) → Contains (delivered_refs feed sealed) refs
    → (date : ℕ) → present_at rows (hashes.hash refs) date ≡ delivers (content feed sealed date) refs

-- the satellite of a feed without a sub says of each reference list, by its hash key, and at each date the attributes
-- that it had in the newest extract, up to the date, that holds it, where no other list that the windows deliver has its
-- hash key
abbrev pub SatTells : Type 0
SatTells =
    (mapping : Mapping) (hashes : Hashes) (feed : ℕ) (sealed : List Window) (rows : List SatRow)
    → table_after mapping hashes (backwards sealed) (Sat feed) ≡ Sats rows
    → IsInLoadOrder sealed → HasOneRowEach feed sealed → IsApart hashes (delivered_refs feed sealed)
    → (refs : List Key) → ((other : List Key) → Contains (delivered_refs feed sealed) other → hashes.hash other ≡ hashes.hash refs → other ≡ refs)
    → (date : ℕ) → option_map (λ row. row.attrs) (valid_at rows (hashes.hash refs) date) ≡ first_attrs (last_rows (up_to date (history feed (reverse sealed))) refs)

-- the multi-active satellite of a feed says of each reference list, by its hash key, and at each date all rows that it
-- had in the newest extract, up to the date, that holds it, where no other list that the windows deliver has its hash key
abbrev pub MultiTells : Type 0
MultiTells =
    (mapping : Mapping) (hashes : Hashes) (feed : ℕ) (sealed : List Window) (rows : List MultiRow)
    → table_after mapping hashes (backwards sealed) (Multi feed) ≡ Multis rows
    → IsInLoadOrder sealed → HasOneRowPerSub feed sealed → IsApart hashes (delivered_refs feed sealed)
    → (refs : List Key) → ((other : List Key) → Contains (delivered_refs feed sealed) other → hashes.hash other ≡ hashes.hash refs → other ≡ refs)
    → (date : ℕ) (row : NRow)
    → Contains (map (described_row refs) (all_valid_at rows (hashes.hash refs) date)) row ↔ Contains (last_rows (up_to date (history feed (reverse sealed))) refs) row

-- the content of such a feed of a hub is read back from the hub's table and the feed's status table, where no two keys
-- of the hub have one hash key, the missing key among them; other feeds may deliver keys to the hub, too
abbrev pub KeysTell : Type 0
KeysTell =
    (mapping : Mapping) (hashes : Hashes) (hub feed : ℕ) (definition : FeedDef) (sealed : List Window) (hubs : List HubRow) (statuses : List StatusRow)
    → slice_get mapping.feeds feed ≡ Some definition → definition.parent ≡ Hub hub
    → table_after mapping hashes (backwards sealed) (HubTable hub) ≡ Hubs hubs
    → table_after mapping hashes (backwards sealed) (Status feed) ≡ Statuses statuses
    → IsInLoadOrder sealed → HasKeysAlone feed sealed → collision_in mapping hashes sealed (Hub hub) ≡ None
    → (date : ℕ) → present_keys hubs statuses date ≡ content feed sealed date

-- the tables of the vault tell the content of a feed without a sub at each date, of a hub or a link, with attributes
-- or without: it is read back from them as the windows delivered it
abbrev pub FeedTells : Type 0
FeedTells =
    (mapping : Mapping) (hashes : Hashes) (sealed : List Window) (feed : ℕ) (definition : FeedDef)
    → is_valid mapping ≡ true → are_windows_valid mapping hashes sealed ≡ true
    → slice_get mapping.feeds feed ≡ Some definition → definition.sub ≡ []
    → (date : ℕ) → content_read mapping (vault mapping hashes sealed) feed date ≡ content feed sealed date

-- so the tables of the vault tell the content of a feed with a sub
abbrev pub MultiFeedTells : Type 0
MultiFeedTells =
    (mapping : Mapping) (hashes : Hashes) (sealed : List Window) (feed : ℕ) (definition : FeedDef)
    → is_valid mapping ≡ true → are_windows_valid mapping hashes sealed ≡ true
    → slice_get mapping.feeds feed ≡ Some definition → (length definition.sub == 0) ≡ false
    → (date : ℕ) → multi_content_read mapping (vault mapping hashes sealed) feed date ≡ content feed sealed date

-- the tables of the vault tell everything that the windows delivered: the content of each feed at each date
abbrev pub VaultTells : Type 0
VaultTells =
    (mapping : Mapping) (hashes : Hashes) (sealed : List Window)
    → is_valid mapping ≡ true → are_windows_valid mapping hashes sealed ≡ true
    → (feed date : ℕ) → any_content_read mapping (vault mapping hashes sealed) feed date ≡ content feed sealed date

-- and so the periods of a feed that has an effectivity table, at each date
abbrev pub PeriodsTell : Type 0
PeriodsTell =
    (mapping : Mapping) (hashes : Hashes) (sealed : List Window) (feed : ℕ)
    → is_valid mapping ≡ true → are_windows_valid mapping hashes sealed ≡ true → Contains (tables mapping) (Effect feed)
    → (date : ℕ) → periods_read mapping (vault mapping hashes sealed) feed date ≡ period_mart sealed feed date
