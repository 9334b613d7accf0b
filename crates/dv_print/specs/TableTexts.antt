-- The texts of raw tables with these rows: for each kind its header, and a record a row.
use Rattle.std.specs.Prelude.{ℕ, List, [], ◌∷◌, Option, Some, None, map, slice_get}
use Rattle.dv_catalog.specs.declared.entries.FeedDef.{FeedDef}
use Rattle.dv_catalog.specs.declared.entries.HubDef.{HubDef}
use Rattle.dv_catalog.specs.declared.tables.TableId.{TableId}
use Rattle.dv_catalog.specs.declared.tables.TableId.TheVariants as ids
use Rattle.dv_catalog.specs.Entries.{Mapping}
use Rattle.dv_records.specs.declared.stores.Rows.{Rows}
use Rattle.dv_records.specs.Stores.{rows_then}
use Rattle.dv_records.specs.declared.stores.Rows.TheVariants.{Hubs, Links, Sats, Multis, Statuses, Effects, Pits, Bridges}
use Rattle.dv_print.specs.Texts.{csv_text, effect_table_header, effect_table_record, hub_table_header, hub_table_record, link_table_header, link_table_record, multi_table_record, sat_table_header, sat_table_record}
use Rattle.dv_print.specs.Texts.{status_table_header, status_table_record}

-- the records of rows of a raw table
abbrev pub raw_records : Rows → List (List (List ℕ))
raw_records (Hubs rows) = map hub_table_record rows
raw_records (Links rows) = map link_table_record rows
raw_records (Sats rows) = map sat_table_record rows
raw_records (Multis rows) = map multi_table_record rows
raw_records (Statuses rows) = map status_table_record rows
raw_records (Effects rows) = map effect_table_record rows
raw_records (Pits rows) = []
raw_records (Bridges rows) = []

abbrev pub hub_header_by : Option HubDef → List (List ℕ)
hub_header_by None = []
hub_header_by (Some hub) = hub_table_header hub

abbrev pub sat_header_by : Option FeedDef → List (List ℕ)
sat_header_by None = []
sat_header_by (Some feed) = sat_table_header feed

-- the header of a raw table
abbrev pub table_header : Mapping → TableId → List (List ℕ)
table_header mapping (ids.Hub hub) = hub_header_by (slice_get mapping.hubs hub)
table_header mapping (ids.Link link) = link_table_header mapping link
table_header mapping (ids.Sat feed) = sat_header_by (slice_get mapping.feeds feed)
table_header mapping (ids.Multi feed) = sat_header_by (slice_get mapping.feeds feed)
table_header mapping (ids.Status feed) = status_table_header
table_header mapping (ids.Effect feed) = effect_table_header

-- the text of a raw table with these rows
abbrev pub table_text : Mapping → TableId → Rows → List ℕ
table_text mapping table rows = csv_text (table_header mapping table ∷ raw_records rows)

-- rows of a table, and those behind them where there are any
abbrev pub rows_behind : Rows → Option Rows → Rows
rows_behind rows None = rows
rows_behind rows (Some more) = rows_then rows more
