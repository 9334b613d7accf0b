-- A join on hash keys: links beside the keys at which they are joined, and the rows that they make longer.
use Rattle.std.specs.Prelude.{ℕ, List, Option, Some, filter, map, slice_get}
use Rattle.std.specs.List.{flat_map}
use Rattle.std.specs.Option.{option_map}
use Rattle.std.specs.Borrow.{Bor}
use Rattle.std.specs.Str.{bytes_eq}
use Rattle.dv_records.specs.declared.raw_rows.LinkRow.{LinkRow}
use Rattle.dv_records.specs.declared.snapshots.BridgeRow.{BridgeRow}
use Rattle.dv_bridge.specs.declared.keyed_links.KeyedLink.{KeyedLink}
use Rattle.dv_bridge.specs.BridgeRows.{is_same_key, longer_row}
use Rattle.dv_bridge.specs.KeyedRows.{KeyedRow, key_of}

-- the row of a link that is lent, if there is one
abbrev pub told_row : Option (Bor LinkRow) → Option LinkRow
told_row row = option_map (λ row. row.now) row

-- a lent link beside its key
abbrev pub keyed_row : KeyedLink → List ℕ × KeyedRow
keyed_row one = (one.key, one.link.now)

-- a link beside the hash key at a place of its hubs; none where it has none there
abbrev pub keyed_at : ℕ → KeyedRow → Option (List ℕ × KeyedRow)
keyed_at place link = option_map (λ key. (key, link)) (key_of place link)

-- those of a key, in their order
abbrev pub keyed_with : List ℕ → List KeyedLink → List KeyedLink
keyed_with key links = filter (λ one. bytes_eq key one.key) links

-- the links of a key, in their order
abbrev pub with_key : List ℕ → List KeyedLink → List KeyedRow
with_key key links = map (λ one. one.link.now) (keyed_with key links)

-- those of a key, if there is one
abbrev pub keyed_met : Option (List ℕ) → List KeyedLink → List KeyedLink
keyed_met key links = filter (λ one. is_same_key key (Some one.key)) links

-- a bridge row with a lent link more
abbrev pub row_with : BridgeRow → KeyedLink → BridgeRow
row_with row one = longer_row row one.link.now.row

-- each row with each link whose key it has at a place of its hubs
abbrev pub joined_rows : ℕ → List KeyedLink → List BridgeRow → List BridgeRow
joined_rows place links rows = flat_map (λ row. map (row_with row) (keyed_met (slice_get row.hubs place) links)) rows
