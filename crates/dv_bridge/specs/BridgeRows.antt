-- The rows of a bridge by the rows of links and status tables: those of one link, and those that a further link makes
-- longer, joined on hash keys (Linstedt and Olschimke 2015, chapter 6, on bridge tables).
use Rattle.std.specs.Prelude.{ℕ, Bool, false, not, List, [], ◌∷◌, ◌++◌, Option, Some, filter, map, slice_get}
use Rattle.std.specs.List.{filter_map, flat_map, list_any}
use Rattle.std.specs.Str.{bytes_eq}
use Rattle.dv_records.specs.declared.raw_rows.LinkRow.{LinkRow}
use Rattle.dv_records.specs.declared.raw_rows.StatusRow.{StatusRow}
use Rattle.dv_records.specs.declared.snapshots.BridgeRow.{BridgeRow}
use Rattle.dv_records.specs.ReadBack.{link_row_by, present_parents}
use Rattle.dv_bridge.specs.ZeroKeys.{is_zero}

-- a link's row misses no reference
abbrev pub is_whole : LinkRow → Bool
is_whole row = not (list_any is_zero row.hubs)

-- the rows of a link that a feed has at a date and that miss no reference, by hash key
abbrev pub links_at : List LinkRow → List StatusRow → ℕ → List LinkRow
links_at links statuses date = filter is_whole (filter_map (link_row_by links) (present_parents statuses date))

-- the bridge row of a link
abbrev pub first_row : LinkRow → BridgeRow
first_row link = record { links = link.digest ∷ []; hubs = link.hubs }

-- a bridge row with a further link
abbrev pub longer_row : BridgeRow → LinkRow → BridgeRow
longer_row row link = record { links = row.links ++ link.digest ∷ []; hubs = row.hubs ++ link.hubs }

-- two places hold one hash key; where one of them holds none, they do not
abbrev pub is_same_key : Option (List ℕ) → Option (List ℕ) → Bool
is_same_key (Some a) (Some b) = bytes_eq a b
is_same_key a b = false

-- a bridge row and a link have one hash key at these places of their hubs
abbrev pub meets : ℕ → ℕ → BridgeRow → LinkRow → Bool
meets left right row link = is_same_key (slice_get row.hubs left) (slice_get link.hubs right)

-- the join: each row with each link that it meets, the rows in their order, and to each the links in theirs
abbrev pub next_rows : ℕ → ℕ → List LinkRow → List BridgeRow → List BridgeRow
next_rows left right links rows = flat_map (λ row. map (longer_row row) (filter (meets left right row) links)) rows
