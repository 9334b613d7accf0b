-- The content of a feed, and its periods, read back from the tables alone, at any date (Linstedt and Olschimke 2015,
-- chapter 11, on hash keys, and chapter 5, on status tracking and effectivity satellites).
use Rattle.std.specs.List.{filter_map, flat_map}
use Rattle.std.specs.Option.{option_map, option_map_or}
use Rattle.std.specs.Prelude.{ℕ, ◌==◌, List, [], ◌∷◌, Option, Some, None, filter, find, if◌then◌else◌, length, map, replicate, slice_get}
use Rattle.std.specs.Str.{bytes_eq}
use Rattle.dv_text.specs.declared.rows.Key.{Key}
use Rattle.dv_text.specs.declared.rows.NRow.{NRow}
use Rattle.dv_text.specs.Orders.{row_cmp}
use Rattle.dv_text.specs.Sorting.{sorted_by}
use Rattle.dv_catalog.specs.declared.entries.FeedDef.{FeedDef}
use Rattle.dv_catalog.specs.declared.entries.Parent.{Parent}
use Rattle.dv_catalog.specs.declared.entries.Parent.TheVariants.{Hub, Link}
use Rattle.dv_catalog.specs.declared.tables.TableId.TheVariants.{Hub as HubTable, Link as LinkTable, Sat, Multi, Status, Effect}
use Rattle.dv_catalog.specs.Entries.{Mapping}
use Rattle.dv_catalog.specs.Feeds.{parent_hubs, parts_of}
use Rattle.dv_records.specs.declared.mart_rows.Period.{Period}
use Rattle.dv_records.specs.declared.mart_rows.PeriodRow.{PeriodRow}
use Rattle.dv_records.specs.declared.raw_rows.EffectRow.{EffectRow}
use Rattle.dv_records.specs.declared.raw_rows.HubRow.{HubRow}
use Rattle.dv_records.specs.declared.raw_rows.LinkRow.{LinkRow}
use Rattle.dv_records.specs.declared.raw_rows.MultiRow.{MultiRow}
use Rattle.dv_records.specs.declared.raw_rows.SatRow.{SatRow}
use Rattle.dv_records.specs.declared.raw_rows.StatusRow.{StatusRow}
use Rattle.dv_records.specs.declared.stores.Rows.{Rows}
use Rattle.dv_records.specs.declared.stores.Rows.TheVariants.{Hubs, Links, Sats, Multis, Statuses, Effects}
use Rattle.dv_records.specs.declared.stores.TableRows.{TableRows}
use Rattle.dv_records.specs.Batches.{digest_cmp}
use Rattle.dv_records.specs.EffectPeriods.{effect_periods}
use Rattle.dv_records.specs.Marts.{period_cmp}
use Rattle.dv_records.specs.Reconstruction.{all_valid_at, described_row, present_at, valid_at}
use Rattle.dv_records.specs.Stores.{rows_in}

-- ---- rows by their kind: none where they are of another one

abbrev pub hub_rows : Rows → List HubRow
hub_rows (Hubs rows) = rows
hub_rows rows = []

abbrev pub link_rows : Rows → List LinkRow
link_rows (Links rows) = rows
link_rows rows = []

abbrev pub sat_rows : Rows → List SatRow
sat_rows (Sats rows) = rows
sat_rows rows = []

abbrev pub multi_rows : Rows → List MultiRow
multi_rows (Multis rows) = rows
multi_rows rows = []

abbrev pub status_rows : Rows → List StatusRow
status_rows (Statuses rows) = rows
status_rows rows = []

abbrev pub effect_rows : Rows → List EffectRow
effect_rows (Effects rows) = rows
effect_rows rows = []

-- the rows of a hub, of a link, and of a feed's satellite, multi-active satellite, status table and effectivity table
abbrev pub hub_rows_in : ℕ → List TableRows → List HubRow
hub_rows_in hub tables = hub_rows (rows_in (HubTable hub) tables)

abbrev pub link_rows_in : ℕ → List TableRows → List LinkRow
link_rows_in link tables = link_rows (rows_in (LinkTable link) tables)

abbrev pub sat_rows_in : ℕ → List TableRows → List SatRow
sat_rows_in feed tables = sat_rows (rows_in (Sat feed) tables)

abbrev pub multi_rows_in : ℕ → List TableRows → List MultiRow
multi_rows_in feed tables = multi_rows (rows_in (Multi feed) tables)

abbrev pub status_rows_in : ℕ → List TableRows → List StatusRow
status_rows_in feed tables = status_rows (rows_in (Status feed) tables)

abbrev pub effect_rows_in : ℕ → List TableRows → List EffectRow
effect_rows_in feed tables = effect_rows (rows_in (Effect feed) tables)

-- ---- reference lists by their hash keys

-- the missing key of a hub: as many empty parts as its keys have
abbrev pub missing_key : Mapping → ℕ → Key
missing_key mapping hub = record { parts = replicate (parts_of (slice_get mapping.hubs hub)) [] }

-- the first row of a hub with a hash key
abbrev pub hub_row_by : List HubRow → List ℕ → Option HubRow
hub_row_by rows digest = find (λ row. bytes_eq row.digest digest) rows

-- the first row of a link with a hash key
abbrev pub link_row_by : List LinkRow → List ℕ → Option LinkRow
link_row_by rows digest = find (λ row. bytes_eq row.digest digest) rows

-- the key that a hash key stands for in a link's row: that of the hub's row with the hash key, and the missing key where
-- the hub has no such row, as it has none for the zero key
abbrev pub key_read : Mapping → List TableRows → ℕ → List ℕ → Key
key_read mapping tables hub digest = option_map_or (λ row. row.key) (hub_row_by (hub_rows_in hub tables) digest) (missing_key mapping hub)

-- the keys that the hash keys of a link's row stand for, hub by hub
abbrev pub keys_read : Mapping → List TableRows → List ℕ → List (List ℕ) → List Key
keys_read mapping tables [] digests = []
keys_read mapping tables (hub ∷ hubs) [] = []
keys_read mapping tables (hub ∷ hubs) (digest ∷ digests) = key_read mapping tables hub digest ∷ keys_read mapping tables hubs digests

-- the reference list with a hash key in the table of a hub or a link: the key of the hub's row, or the keys of the hubs
-- that the link's row points to; none where there is no such row
abbrev pub refs_read : Mapping → List TableRows → Parent → List ℕ → Option (List Key)
refs_read mapping tables (Hub hub) digest = option_map (λ row. row.key ∷ []) (hub_row_by (hub_rows_in hub tables) digest)
refs_read mapping tables (Link link) digest =
    option_map (λ row. keys_read mapping tables (parent_hubs mapping (Link link)) row.hubs) (link_row_by (link_rows_in link tables) digest)

-- ---- the content of a feed without a sub

-- the parents in a status table that are present at a date, in order
abbrev pub present_parents : List StatusRow → ℕ → List (List ℕ)
present_parents rows date = filter (λ parent. present_at rows parent date) (sorted_by digest_cmp (map (λ row. row.parent) rows))

-- the attributes of a parent at a date: those of its valid row in the feed's satellite; none where the feed has none
abbrev pub attrs_read : List TableRows → FeedDef → ℕ → List ℕ → ℕ → List (List ℕ)
attrs_read tables definition feed digest date =
    if length definition.attrs == 0 then [] else option_map_or (λ row. row.attrs) (valid_at (sat_rows_in feed tables) digest date) []

-- the row of a parent at a date, for a feed without a sub; none where no row of the hub or the link has the hash key
abbrev pub row_read : Mapping → List TableRows → FeedDef → ℕ → ℕ → List ℕ → Option NRow
row_read mapping tables definition feed date digest =
    option_map (λ refs. record { refs = refs; sub = []; attrs = attrs_read tables definition feed digest date }) (refs_read mapping tables definition.parent digest)

-- the rows of the parents that are present at a date, in order; none where the mapping hasn't the feed
abbrev pub content_read_by : Mapping → List TableRows → Option FeedDef → ℕ → ℕ → List NRow
content_read_by mapping tables None feed date = []
content_read_by mapping tables (Some definition) feed date =
    sorted_by row_cmp (filter_map (row_read mapping tables definition feed date) (present_parents (status_rows_in feed tables) date))

-- the content of a feed without a sub at a date, by the tables alone
abbrev pub content_read : Mapping → List TableRows → ℕ → ℕ → List NRow
content_read mapping tables feed date = content_read_by mapping tables (slice_get mapping.feeds feed) feed date

-- ---- the content of a feed with a sub

-- the rows of a parent at a date, for a feed with a sub: one for each row of the feed's multi-active satellite that is
-- valid then; none where no row of the hub or the link has the hash key
abbrev pub rows_read : Mapping → List TableRows → FeedDef → ℕ → ℕ → List ℕ → List NRow
rows_read mapping tables definition feed date digest =
    option_map_or (λ refs. map (described_row refs) (all_valid_at (multi_rows_in feed tables) digest date)) (refs_read mapping tables definition.parent digest) []

-- all rows of the parents that are present at a date, in order; none where the mapping hasn't the feed
abbrev pub multi_content_read_by : Mapping → List TableRows → Option FeedDef → ℕ → ℕ → List NRow
multi_content_read_by mapping tables None feed date = []
multi_content_read_by mapping tables (Some definition) feed date =
    sorted_by row_cmp (flat_map (rows_read mapping tables definition feed date) (present_parents (status_rows_in feed tables) date))

-- the content of a feed with a sub at a date, by the tables alone
abbrev pub multi_content_read : Mapping → List TableRows → ℕ → ℕ → List NRow
multi_content_read mapping tables feed date = multi_content_read_by mapping tables (slice_get mapping.feeds feed) feed date

-- ---- the content of any feed

abbrev pub any_content_read_by : Mapping → List TableRows → Option FeedDef → ℕ → ℕ → List NRow
any_content_read_by mapping tables None feed date = []
any_content_read_by mapping tables (Some definition) feed date =
    if length definition.sub == 0 then content_read mapping tables feed date else multi_content_read mapping tables feed date

-- the content of a feed at a date, by the tables alone, whether it has a sub or not; none where the mapping hasn't the feed
abbrev pub any_content_read : Mapping → List TableRows → ℕ → ℕ → List NRow
any_content_read mapping tables feed date = any_content_read_by mapping tables (slice_get mapping.feeds feed) feed date

-- ---- the periods of a feed

-- the row of a period mart for a period; none where no row of the hub or the link has the hash key
abbrev pub period_read : Mapping → List TableRows → FeedDef → Period → Option PeriodRow
period_read mapping tables definition period =
    option_map (λ refs. record { refs = refs; begin = period.begin; end = period.end }) (refs_read mapping tables definition.parent period.parent)

-- the rows for the periods that the feed's effectivity table tells at a date, in order; none where the mapping hasn't the
-- feed
abbrev pub periods_read_by : Mapping → List TableRows → Option FeedDef → ℕ → ℕ → List PeriodRow
periods_read_by mapping tables None feed date = []
periods_read_by mapping tables (Some definition) feed date =
    sorted_by period_cmp (filter_map (period_read mapping tables definition) (effect_periods (effect_rows_in feed tables) date))

-- the period mart of a feed at a date, by the tables alone
abbrev pub periods_read : Mapping → List TableRows → ℕ → ℕ → List PeriodRow
periods_read mapping tables feed date = periods_read_by mapping tables (slice_get mapping.feeds feed) feed date
