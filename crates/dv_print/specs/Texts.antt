-- The texts of marts and tables: CSV as `csv` writes it by default (RFC 4180, section 2), a header and the rows in their order.
use Rattle.std.specs.Prelude.{ℕ, ◌==◌, Bool, List, [], ◌∷◌, ◌++◌, Option, Some, None, codes, length, map, slice_get, if◌then◌else◌}
use Rattle.std.specs.Fmt.{decimal}
use Rattle.std.specs.List.{flat_map, join_with_byte, range_with_len}
use Rattle.csv.specs.Writing.{default_writer, row_text}
use Rattle.hex.specs.Hex.{encode_lower}
use Rattle.dv_text.specs.declared.rows.Key.{Key}
use Rattle.dv_text.specs.declared.rows.NRow.{NRow}
use Rattle.dv_text.specs.declared.rows.WindowHead.{WindowHead}
use Rattle.dv_text.specs.Stamps.{stamp_text}
use Rattle.dv_catalog.specs.declared.entries.FeedDef.{FeedDef}
use Rattle.dv_catalog.specs.declared.entries.HubDef.{HubDef}
use Rattle.dv_catalog.specs.Entries.{Mapping}
use Rattle.dv_catalog.specs.Feeds.{feed_hubs, parent_hubs, parts_of}
use Rattle.dv_catalog.specs.Tables.{feed_name, hub_name}
use Rattle.dv_catalog.specs.declared.entries.Parent.TheVariants as parents
use Rattle.dv_records.specs.declared.mart_rows.HubMartRow.{HubMartRow}
use Rattle.dv_records.specs.declared.mart_rows.PathRow.{PathRow}
use Rattle.dv_records.specs.declared.mart_rows.PeriodRow.{PeriodRow}
use Rattle.dv_records.specs.declared.raw_rows.Code.{Code}
use Rattle.dv_records.specs.declared.raw_rows.Code.TheVariants.{I, D}
use Rattle.dv_records.specs.declared.raw_rows.EffectRow.{EffectRow}
use Rattle.dv_records.specs.declared.raw_rows.HubRow.{HubRow}
use Rattle.dv_records.specs.declared.raw_rows.LinkRow.{LinkRow}
use Rattle.dv_records.specs.declared.raw_rows.MultiRow.{MultiRow}
use Rattle.dv_records.specs.declared.raw_rows.SatRow.{SatRow}
use Rattle.dv_records.specs.declared.raw_rows.StatusRow.{StatusRow}
use Rattle.dv_records.specs.declared.snapshots.BridgeRow.{BridgeRow}
use Rattle.dv_records.specs.declared.snapshots.PitRow.{PitRow}
use Rattle.dv_records.specs.Marts.{hub_feeds}

-- records as text
abbrev pub csv_text : List (List (List ℕ)) → List ℕ
csv_text records = flat_map (row_text default_writer) records

-- a number behind a name, with a dot between
abbrev pub numbered : List ℕ → ℕ → List ℕ
numbered name n = name ++ 46 ∷ decimal n

-- a name behind a name, with a dot between
abbrev pub dotted : List ℕ → List ℕ → List ℕ
dotted a b = a ++ 46 ∷ b

abbrev pub all_parts : List Key → List (List ℕ)
all_parts refs = flat_map (λ key. key.parts) refs

-- ---- a feed's mart: key columns, sub and attributes, by the extract's column names

abbrev pub key_columns : FeedDef → List (List ℕ)
key_columns feed = flat_map (λ columns. columns) feed.keys

abbrev pub feed_header : FeedDef → List (List ℕ)
feed_header feed = key_columns feed ++ feed.sub ++ feed.attrs

abbrev pub feed_record : NRow → List (List ℕ)
feed_record row = all_parts row.refs ++ row.sub ++ row.attrs

abbrev pub feed_text : FeedDef → List NRow → List ℕ
feed_text feed rows = csv_text (feed_header feed ∷ map feed_record rows)

-- ---- a hub's mart: key parts; for each feed whether the key is present, and its attributes unless it has a sub

abbrev pub part_columns : Mapping → ℕ → List (List ℕ)
part_columns mapping hub = map (numbered (hub_name (slice_get mapping.hubs hub))) (range_with_len 1 (parts_of (slice_get mapping.hubs hub)))

abbrev pub cell_columns : FeedDef → List (List ℕ)
cell_columns feed = feed.name ∷ (if length feed.sub == 0 then map (dotted feed.name) feed.attrs else [])

abbrev pub hub_header : Mapping → ℕ → List (List ℕ)
hub_header mapping hub = part_columns mapping hub ++ flat_map (λ feed. cell_columns feed.1) (hub_feeds mapping hub)

abbrev pub yes_or_no : Bool → List ℕ
yes_or_no present = if present then codes "Y" else codes "N"

abbrev pub hub_record : HubMartRow → List (List ℕ)
hub_record row = row.key.parts ++ flat_map (λ cell. yes_or_no cell.present ∷ cell.attrs) row.cells

abbrev pub hub_text : Mapping → ℕ → List HubMartRow → List ℕ
hub_text mapping hub rows = csv_text (hub_header mapping hub ∷ map hub_record rows)

-- ---- a path's mart: the key parts of each feed's references

abbrev pub hub_columns : Mapping → List ℕ → ℕ → List (List ℕ)
hub_columns mapping feed hub = map (dotted feed) (part_columns mapping hub)

abbrev pub step_columns : Mapping → ℕ → List (List ℕ)
step_columns mapping feed = flat_map (hub_columns mapping (feed_name (slice_get mapping.feeds feed))) (feed_hubs mapping feed)

abbrev pub path_header : Mapping → List ℕ → List (List ℕ)
path_header mapping feeds = flat_map (step_columns mapping) feeds

abbrev pub path_record : PathRow → List (List ℕ)
path_record row = flat_map all_parts row.steps

abbrev pub path_text : Mapping → List ℕ → List PathRow → List ℕ
path_text mapping feeds rows = csv_text (path_header mapping feeds ∷ map path_record rows)

-- ---- a feed's periods: key columns, begin and end

abbrev pub period_header : FeedDef → List (List ℕ)
period_header feed = key_columns feed ++ codes "begin" ∷ codes "end" ∷ []

abbrev pub period_record : PeriodRow → List (List ℕ)
period_record row = all_parts row.refs ++ stamp_text row.begin ∷ stamp_text row.end ∷ []

abbrev pub period_text : FeedDef → List PeriodRow → List ℕ
period_text feed rows = csv_text (period_header feed ∷ map period_record rows)

-- ---- the raw tables: hash key, load date, record source, and what each kind has besides

abbrev pub raw_header : List (List ℕ) → List (List ℕ)
raw_header columns = codes "hash_key" ∷ codes "load_date" ∷ codes "record_source" ∷ columns

abbrev pub raw_record : List ℕ → ℕ → List ℕ → List (List ℕ) → List (List ℕ)
raw_record digest load source columns = encode_lower digest ∷ stamp_text load ∷ source ∷ columns

abbrev pub hub_table_header : HubDef → List (List ℕ)
hub_table_header hub = raw_header (map (λ n. codes "part_" ++ decimal n) (range_with_len 1 hub.parts))

abbrev pub hub_table_record : HubRow → List (List ℕ)
hub_table_record row = raw_record row.digest row.load row.source row.key.parts

abbrev pub link_table_header : Mapping → ℕ → List (List ℕ)
link_table_header mapping link =
    raw_header (map (λ hub. hub_name (slice_get mapping.hubs hub)) (parent_hubs mapping (parents.Link link)))

abbrev pub link_table_record : LinkRow → List (List ℕ)
link_table_record row = raw_record row.digest row.load row.source (map encode_lower row.hubs)

abbrev pub sat_table_header : FeedDef → List (List ℕ)
sat_table_header feed = raw_header (codes "hash_diff" ∷ (feed.sub ++ feed.attrs))

abbrev pub sat_table_record : SatRow → List (List ℕ)
sat_table_record row = raw_record row.parent row.load row.source (encode_lower row.diff ∷ row.attrs)

abbrev pub multi_table_record : MultiRow → List (List ℕ)
multi_table_record row = raw_record row.parent row.load row.source (encode_lower row.diff ∷ (row.sub ++ row.attrs))

abbrev pub code_text : Code → List ℕ
code_text I = codes "I"
code_text D = codes "D"

abbrev pub status_table_header : List (List ℕ)
status_table_header = raw_header (codes "status" ∷ [])

abbrev pub status_table_record : StatusRow → List (List ℕ)
status_table_record row = raw_record row.parent row.load row.source (code_text row.code ∷ [])

abbrev pub effect_table_header : List (List ℕ)
effect_table_header = raw_header (codes "begin" ∷ codes "end" ∷ [])

abbrev pub effect_table_record : EffectRow → List (List ℕ)
effect_table_record row = raw_record row.parent row.load row.source (stamp_text row.begin ∷ stamp_text row.end ∷ [])

-- ---- snapshots

abbrev pub pit_columns : FeedDef → List (List ℕ)
pit_columns feed = dotted feed.name (codes "load") ∷ dotted feed.name (codes "present") ∷ []

abbrev pub pit_header : Mapping → ℕ → List (List ℕ)
pit_header mapping hub = codes "hash_key" ∷ codes "snapshot" ∷ flat_map (λ feed. pit_columns feed.1) (hub_feeds mapping hub)

-- a load date, or a blank for none
abbrev pub load_or_blank : Option ℕ → List ℕ
load_or_blank None = []
load_or_blank (Some load) = stamp_text load

abbrev pub pit_record : ℕ → PitRow → List (List ℕ)
pit_record date row =
    encode_lower row.key ∷ stamp_text date ∷ flat_map (λ cell. load_or_blank cell.load ∷ yes_or_no cell.present ∷ []) row.cells

abbrev pub pit_text : Mapping → ℕ → ℕ → List PitRow → List ℕ
pit_text mapping hub date rows = csv_text (pit_header mapping hub ∷ map (pit_record date) rows)

abbrev pub bridge_hub_columns : Mapping → ℕ → List (List ℕ)
bridge_hub_columns mapping feed =
    map (λ hub. dotted (feed_name (slice_get mapping.feeds feed)) (hub_name (slice_get mapping.hubs hub))) (feed_hubs mapping feed)

abbrev pub bridge_header : Mapping → List ℕ → List (List ℕ)
bridge_header mapping feeds =
    codes "snapshot" ∷ (map (λ feed. feed_name (slice_get mapping.feeds feed)) feeds ++ flat_map (bridge_hub_columns mapping) feeds)

abbrev pub bridge_record : ℕ → BridgeRow → List (List ℕ)
bridge_record date row = stamp_text date ∷ map encode_lower (row.links ++ row.hubs)

abbrev pub bridge_text : Mapping → List ℕ → ℕ → List BridgeRow → List ℕ
bridge_text mapping feeds date rows = csv_text (bridge_header mapping feeds ∷ map (bridge_record date) rows)

-- ---- the windows

abbrev pub head_record : Mapping → List ℕ → WindowHead → List (List ℕ)
head_record mapping state head =
    stamp_text head.load ∷ state ∷ join_with_byte 32 (map (λ feed. feed_name (slice_get mapping.feeds feed)) head.feeds) ∷ []

-- the sealed windows in order, then the open one
abbrev pub windows_text : Mapping → List WindowHead → List WindowHead → List ℕ
windows_text mapping sealed begun =
    csv_text (
    (codes "load_date" ∷ codes "state" ∷ codes "feeds" ∷ []) ∷ (map (head_record mapping (codes "sealed")) sealed ++ map (head_record mapping (codes "open")) begun))
