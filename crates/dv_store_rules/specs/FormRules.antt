-- The rules of form of the rows of raw tables: each says what holds of a row behind the rows before it in its table, and
-- behind all that is read of a store before the table.
use Rattle.std.specs.List.{last_or, list_all, list_any, zip}
use Rattle.std.specs.Option.{option_map, option_map_or}
use Rattle.std.specs.Ordering.{is_lt, nat_cmp, ordering_then}
use Rattle.std.specs.Prelude.{ℕ, ◌+◌, ◌==◌, Bool, true, false, ◌&&◌, ◌||◌, not, nat_le, nat_lt, List, [], ◌∷◌, Option, Some, None, find, length, replicate, reverse, slice_get}
use Rattle.std.specs.Str.{bytes_eq}
use Rattle.std.specs.declared.cmp.Ordering.{Ordering}
use Rattle.dv_text.specs.declared.rows.WindowHead.{WindowHead}
use Rattle.dv_text.specs.Keys.{Hashes}
use Rattle.dv_text.specs.Stamps.{open_end}
use Rattle.dv_catalog.specs.declared.entries.Parent.{Parent}
use Rattle.dv_catalog.specs.declared.entries.Parent.TheVariants.{Hub, Link}
use Rattle.dv_catalog.specs.Entries.{Mapping}
use Rattle.dv_catalog.specs.Feeds.{parent_hubs, parts_of, source_by}
use Rattle.dv_records.specs.declared.raw_rows.Code.{Code}
use Rattle.dv_records.specs.declared.raw_rows.Code.TheVariants.{I, D}
use Rattle.dv_records.specs.declared.raw_rows.EffectRow.{EffectRow}
use Rattle.dv_records.specs.declared.raw_rows.HubRow.{HubRow}
use Rattle.dv_records.specs.declared.raw_rows.LinkRow.{LinkRow}
use Rattle.dv_records.specs.declared.raw_rows.MultiRow.{MultiRow}
use Rattle.dv_records.specs.declared.raw_rows.SatRow.{SatRow}
use Rattle.dv_records.specs.declared.raw_rows.StatusRow.{StatusRow}
use Rattle.dv_records.specs.declared.stores.Rows.{Rows}
use Rattle.dv_records.specs.declared.stores.TableRows.{TableRows}
use Rattle.dv_records.specs.Limits.{most_field_bytes, most_weight}
use Rattle.dv_records.specs.ReadBack.{hub_rows_in, link_rows_in}
use Rattle.dv_records.specs.Weights.{rows_weight, tables_weight}

-- what is read of a store before the rows of a raw table: the mapping, the heads of the sealed windows and behind them
-- that of the open one, and the raw tables before it in table order; and the hash function with its width
pub record Known : Type 0 where
  pub mapping : Mapping
  pub hashes : Hashes
  pub width : ℕ
  pub heads : List WindowHead
  pub tables : List TableRows

-- ---- F4: the form of a row

-- a digest has the width
abbrev pub is_digest : ℕ → List ℕ → Bool
is_digest width digest = length digest == width

-- texts are as many as they have to be, and none is too long
abbrev pub are_texts : ℕ → List (List ℕ) → Bool
are_texts count texts = (length texts == count) && list_all (λ text. nat_le (length text) most_field_bytes) texts

-- how many columns of the sub, and how many attributes, a feed has
abbrev pub sub_count : Mapping → ℕ → ℕ
sub_count mapping feed = option_map_or (λ def. length def.sub) (slice_get mapping.feeds feed) 0

abbrev pub attr_count : Mapping → ℕ → ℕ
attr_count mapping feed = option_map_or (λ def. length def.attrs) (slice_get mapping.feeds feed) 0

-- a row of a hub has a digest and as many key parts as the hub says
abbrev pub is_hub_row : Known → ℕ → HubRow → Bool
is_hub_row known hub row =
    is_digest known.width row.digest && are_texts (parts_of (slice_get known.mapping.hubs hub)) row.key.parts

-- a row of a link has a digest of its own and one for each hub of the link
abbrev pub is_link_row : Known → ℕ → LinkRow → Bool
is_link_row known link row =
    is_digest known.width row.digest && (length row.hubs == length (parent_hubs known.mapping (Link link)))
    && list_all (is_digest known.width) row.hubs

-- a row of a satellite has two digests and as many attributes as the feed
abbrev pub is_sat_row : Known → ℕ → SatRow → Bool
is_sat_row known feed row =
    is_digest known.width row.parent && is_digest known.width row.diff && are_texts (attr_count known.mapping feed) row.attrs

-- a row of a multi-active satellite has a sub besides
abbrev pub is_multi_row : Known → ℕ → MultiRow → Bool
is_multi_row known feed row =
    is_digest known.width row.parent && is_digest known.width row.diff
    && are_texts (sub_count known.mapping feed) row.sub && are_texts (attr_count known.mapping feed) row.attrs

-- ---- F5: the load date

-- a window of the load date is sealed or open
abbrev pub is_loaded : List WindowHead → ℕ → Bool
is_loaded heads load = list_any (λ head. head.load == load) heads

-- and it has the feed
abbrev pub is_delivered : List WindowHead → ℕ → ℕ → Bool
is_delivered heads feed load = list_any (λ head. (head.load == load) && list_any (λ other. other == feed) head.feeds) heads

-- ---- F6: the order of a table

-- a row stands behind another one: it has a later load date, or the same and stands behind it in the order of a batch
abbrev pub is_behind : {R : Type 0} → (R → ℕ) → (R → R → Ordering) → R → R → Bool
is_behind load cmp other row = is_lt (ordering_then (nat_cmp (load other) (load row)) (cmp other row))

-- it stands behind the one before it, if there is one
abbrev pub follows : {R : Type 0} → (R → ℕ) → (R → R → Ordering) → List R → R → Bool
follows load cmp before row = option_map_or (λ last. is_behind load cmp last row) (last_or None before) true

-- ---- F7: hash keys and hash differences

-- the zero key, which stands for what is missing
abbrev pub zero_key : ℕ → List ℕ
zero_key width = replicate width 0

-- a hub's hash key is that of its business key
abbrev pub has_key_hash : Hashes → HubRow → Bool
has_key_hash hashes row = bytes_eq row.digest (hashes.hash (row.key ∷ []))

-- a hash difference is that of the attributes
abbrev pub is_diff_of : Hashes → List ℕ → List (List ℕ) → Bool
is_diff_of hashes diff attrs = bytes_eq diff (hashes.diff attrs)

-- ---- F8: the record source

-- a record source is that of a feed of the mapping
abbrev pub is_source : Mapping → List ℕ → Bool
is_source mapping source = list_any (λ feed. bytes_eq source (source_by (Some feed))) mapping.feeds

-- ---- F9: what a row points to

-- a digest is the hash key of a hub's row, or of a link's
abbrev pub is_in_hub : List TableRows → ℕ → List ℕ → Bool
is_in_hub tables hub digest = list_any (λ row. bytes_eq row.digest digest) (hub_rows_in hub tables)

abbrev pub is_in_link : List TableRows → ℕ → List ℕ → Bool
is_in_link tables link digest = list_any (λ row. bytes_eq row.digest digest) (link_rows_in link tables)

-- a hub reference is the zero key or in the hub's table
abbrev pub is_reference : Known → ℕ × List ℕ → Bool
is_reference known (hub, digest) = bytes_eq digest (zero_key known.width) || is_in_hub known.tables hub digest

-- each reference of a link's row is one to its hub
abbrev pub are_references : Known → ℕ → List (List ℕ) → Bool
are_references known link digests = list_all (is_reference known) (zip (parent_hubs known.mapping (Link link)) digests)

-- a digest is in the table of a parent
abbrev pub is_in_parent : List TableRows → Parent → List ℕ → Bool
is_in_parent tables (Hub hub) digest = is_in_hub tables hub digest
is_in_parent tables (Link link) digest = is_in_link tables link digest

-- the parent of a feed's row is in the table of the feed's hub or link
abbrev pub has_parent : Known → ℕ → List ℕ → Bool
has_parent known feed digest = option_map_or (λ def. is_in_parent known.tables def.parent digest) (slice_get known.mapping.feeds feed) false

-- ---- F10: hash keys that stand once

-- no earlier row has the digest
abbrev pub is_new_digest : {R : Type 0} → (R → List ℕ) → List R → List ℕ → Bool
is_new_digest digest_of before digest = not (list_any (λ other. bytes_eq (digest_of other) digest) before)

-- ---- F11: codes by turns

-- the code of a parent's last row
abbrev pub last_code : List StatusRow → List ℕ → Option Code
last_code before parent = option_map (λ row. row.code) (find (λ row. bytes_eq row.parent parent) (reverse before))

-- a parent appears first, and then vanishes and appears by turns
abbrev pub takes_turn : Option Code → Code → Bool
takes_turn None I = true
takes_turn None D = false
takes_turn (Some I) I = false
takes_turn (Some I) D = true
takes_turn (Some D) I = true
takes_turn (Some D) D = false

-- ---- F12: begin and end

-- a row opens a run at its load date, or closes one that began earlier
abbrev pub is_span : EffectRow → Bool
is_span row = ((row.begin == row.load) && (row.end == open_end)) || (nat_lt row.begin row.load && (row.end == row.load))

-- ---- F13: the weight

-- the tables before, and the rows of this one up to a row, weigh no more than a vault may
abbrev pub is_light : Known → Rows → Bool
is_light known rows = nat_le (tables_weight known.tables + rows_weight rows) most_weight
