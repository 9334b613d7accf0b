-- The ways along the feeds of a path: of each feed one row of its link, joined on the hash keys of shared hubs.
use Rattle.std.specs.Prelude.{ℕ, ◌+◌, List, [], ◌∷◌, ◌++◌, Option, None, get_or, map}
use Rattle.std.specs.List.{flat_map}
use Rattle.dv_records.specs.declared.snapshots.BridgeRow.{BridgeRow}
use Rattle.dv_bridge.specs.declared.ways.Joint.{Joint}
use Rattle.dv_bridge.specs.declared.keyed_links.KeyedLink.{KeyedLink}
use Rattle.dv_bridge.specs.BridgeTables.{row_over}
use Rattle.dv_bridge.specs.Joins.{keyed_met}
use Rattle.dv_bridge.specs.KeyedRows.{KeyedRow, key_of, met_by}

-- the hash key at a place of the hubs of a way's last link
abbrev pub last_key : ℕ → List KeyedRow → Option (List ℕ)
last_key place [] = None
last_key place (link ∷ []) = key_of place link
last_key place (link ∷ next ∷ way) = last_key place (next ∷ way)

-- each way with each link that has at one place the hash key that the way's last link has at another
abbrev pub longer_ways : ℕ → ℕ → List KeyedRow → List (List KeyedRow) → List (List KeyedRow)
longer_ways left right links ways = flat_map (λ way. map (λ link. way ++ link ∷ []) (met_by right (last_key left way) links)) ways

-- the row of a bridge along a way
abbrev pub row_along : List KeyedRow → BridgeRow
row_along way = row_over (map (λ link. link.row) way)

-- ---- ways by their ends

-- what an end says: the number of the way before it, and the link that it takes
abbrev pub end_of : Joint → ℕ × KeyedRow
end_of end = (end.before, end.link.now)

-- the ways with these ends, by those before them
abbrev pub ways_by : List (List KeyedRow) → List Joint → List (List KeyedRow)
ways_by ways ends = map (λ end. get_or ways end.before [] ++ end.link.now ∷ []) ends

-- the ways that these ends make of others, feed by feed
abbrev pub ways_behind : List (List KeyedRow) → List (List Joint) → List (List KeyedRow)
ways_behind ways [] = ways
ways_behind ways (ends ∷ steps) = ways_behind (ways_by ways ends) steps

-- the ways that ends make: along no feed there is one
abbrev pub ways_of : List (List Joint) → List (List KeyedRow)
ways_of steps = ways_behind ([] ∷ []) steps

-- the lent links whose key the link of an end has at a place of its hubs
abbrev pub links_met : ℕ → List KeyedLink → Joint → List KeyedRow
links_met place links end = map (λ one. one.link.now) (keyed_met (key_of place end.link.now) links)

-- the ends with links for each way, from the one with a number on
abbrev pub ends_from : ℕ → List (List KeyedRow) → List (ℕ × KeyedRow)
ends_from number [] = []
ends_from number (links ∷ rest) = map (λ link. (number, link)) links ++ ends_from (number + 1) rest
