-- The bridge of a path by the raw tables alone.
use Rattle.std.specs.Prelude.{ℕ, ◌==◌, Bool, true, ◌&&◌, List, [], ◌∷◌, Option, Some, None, filter, length, map, position, slice_get}
use Rattle.std.specs.List.{flat_map}
use Rattle.std.specs.Option.{option_map_or}
use Rattle.dv_catalog.specs.declared.entries.FeedDef.{FeedDef}
use Rattle.dv_catalog.specs.declared.entries.Parent.{Parent}
use Rattle.dv_catalog.specs.declared.entries.Parent.TheVariants.{Hub, Link}
use Rattle.dv_catalog.specs.Entries.{Mapping}
use Rattle.dv_catalog.specs.Feeds.{feed_hubs}
use Rattle.dv_records.specs.declared.raw_rows.LinkRow.{LinkRow}
use Rattle.dv_records.specs.declared.snapshots.BridgeRow.{BridgeRow}
use Rattle.dv_records.specs.declared.stores.TableRows.{TableRows}
use Rattle.dv_records.specs.Marts.{choices}
use Rattle.dv_records.specs.ReadBack.{link_rows_in, status_rows_in}
use Rattle.dv_bridge.specs.BridgeRows.{is_same_key, links_at}

-- the rows of the link that a feed delivers
abbrev pub parent_links : List TableRows → Parent → List LinkRow
parent_links tables (Hub hub) = []
parent_links tables (Link link) = link_rows_in link tables

abbrev pub links_by : List TableRows → ℕ → ℕ → Option FeedDef → List LinkRow
links_by tables date feed None = []
links_by tables date feed (Some definition) = links_at (parent_links tables definition.parent) (status_rows_in feed tables) date

-- the rows of its link that a feed has at a date and that miss no reference, by hash key
abbrev pub feed_links : Mapping → List TableRows → ℕ → ℕ → List LinkRow
feed_links mapping tables date feed = links_by tables date feed (slice_get mapping.feeds feed)

-- the place of a hub among the hubs of a feed's link; behind them all where it is none of them
abbrev pub place_of : Mapping → ℕ → ℕ → ℕ
place_of mapping feed hub = option_map_or (λ place. place) (position (λ h. h == hub) (feed_hubs mapping feed)) (length (feed_hubs mapping feed))

-- whether rows of the links of two feeds have one hash key of a hub
abbrev pub share : Mapping → ℕ → ℕ → ℕ → LinkRow → LinkRow → Bool
share mapping hub f g a b = is_same_key (slice_get a.hubs (place_of mapping f hub)) (slice_get b.hubs (place_of mapping g hub))

-- whether rows of the links of neighbouring feeds have the same hash key of the hub that the feeds share
abbrev pub are_linked : Mapping → List ℕ → List ℕ → List LinkRow → Bool
are_linked mapping (f ∷ g ∷ feeds) (hub ∷ via) (a ∷ b ∷ links) = share mapping hub f g a b && are_linked mapping (g ∷ feeds) via (b ∷ links)
are_linked mapping feeds via links = true

-- the bridge row over some links: their hash keys, then those of all their hubs
abbrev pub row_over : List LinkRow → BridgeRow
row_over links = record { links = map (λ link. link.digest) links; hubs = flat_map (λ link. link.hubs) links }

-- the bridge over feeds, by the raw tables: each choice of one row from the link of each feed in which neighbours share
-- the hub between them
abbrev pub bridge_read : Mapping → List TableRows → ℕ → List ℕ → List ℕ → List BridgeRow
bridge_read mapping tables date feeds via =
    map row_over (filter (are_linked mapping feeds via) (choices (map (feed_links mapping tables date) feeds)))
