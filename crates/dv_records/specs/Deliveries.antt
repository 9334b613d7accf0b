-- What windows bring to a hub or a link.
use Rattle.std.specs.Prelude.{Bool, not, List, [], ◌∷◌, Option, map, if◌then◌else◌, find, filter, slice_get}
use Rattle.std.specs.List.{list_any, list_all, filter_map, flat_map}
use Rattle.dv_text.specs.declared.rows.Key.{Key}
use Rattle.dv_text.specs.declared.rows.Staged.{Staged}
use Rattle.dv_text.specs.declared.rows.Window.{Window}
use Rattle.dv_text.specs.Keys.{is_missing, refs_eq}
use Rattle.dv_text.specs.Orders.{refs_cmp}
use Rattle.dv_text.specs.Sorting.{sorted_by}
use Rattle.dv_catalog.specs.declared.entries.Parent.{Parent}
use Rattle.dv_catalog.specs.declared.entries.Parent.TheVariants.{Hub, Link}
use Rattle.dv_catalog.specs.declared.tables.TableId.{TableId}
use Rattle.dv_catalog.specs.declared.tables.TableId.TheVariants.{Hub as HubTable, Link as LinkTable}
use Rattle.dv_catalog.specs.Entries.{Mapping}
use Rattle.dv_catalog.specs.Feeds.{feed_hubs, is_fed_by, keys_at}
use Rattle.dv_records.specs.declared.deliveries.Delivery.{Delivery}
use Rattle.dv_records.specs.History.{all_refs}

-- the raw table of a hub or a link
abbrev pub table_of : Parent → TableId
table_of (Hub hub) = HubTable hub
table_of (Link link) = LinkTable link

-- the reference lists that a feed's rows bring to a hub, each of one key, or to a link; a link's feed brings to each hub
-- its key of the references
abbrev pub refs_from : Mapping → Parent → Staged → List (List Key)
refs_from mapping (Hub hub) staged =
    flat_map (λ row. map (λ key. key ∷ []) (keys_at hub (feed_hubs mapping staged.feed) row.refs)) staged.rows
refs_from mapping (Link link) staged =
    if is_fed_by (Link link) (slice_get mapping.feeds staged.feed) then all_refs staged.rows else []

-- the same as deliveries of the feed
abbrev pub offers_of : Mapping → Parent → Staged → List Delivery
offers_of mapping parent staged =
    map (λ refs. record { table = table_of parent; refs = refs; feed = staged.feed }) (refs_from mapping parent staged)

-- all that a window brings to a hub or a link, feed by feed in declared order, in which a window's extracts stand; a
-- list whose keys are all missing is left out
abbrev pub offers : Mapping → Parent → Window → List Delivery
offers mapping parent window =
    filter (λ offer. not (list_all is_missing offer.refs)) (flat_map (offers_of mapping parent) window.extracts)

-- the reference lists that a window brings, as often as it brings them
abbrev pub offered_refs : Mapping → Parent → Window → List (List Key)
offered_refs mapping parent window = map (λ offer. offer.refs) (offers mapping parent window)

-- whether a window brings a reference list
abbrev pub is_offered : Mapping → Parent → Window → List Key → Bool
is_offered mapping parent window refs = list_any (λ offer. refs_eq offer.refs refs) (offers mapping parent window)

-- whether one of the windows brings it
abbrev pub is_known : Mapping → Parent → List Window → List Key → Bool
is_known mapping parent windows refs = list_any (λ window. is_offered mapping parent window refs) windows

-- the first delivery of a reference list in a window: that of the first feed in declared order that brings it
abbrev pub first_offer : Mapping → Parent → Window → List Key → Option Delivery
first_offer mapping parent window refs = find (λ offer. refs_eq offer.refs refs) (offers mapping parent window)

-- the deliveries of a window to a hub or a link: each reference list that it brings once, in order, by the first feed
-- that brings it
abbrev pub deliveries : Mapping → Parent → Window → List Delivery
deliveries mapping parent window =
    filter_map (first_offer mapping parent window) (sorted_by refs_cmp (offered_refs mapping parent window))
