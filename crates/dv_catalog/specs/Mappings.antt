-- The mapping that a file without a fault declares, with names looked up, and what every mapping keeps to.
use Rattle.std.specs.Prelude.{ℕ, ◌+◌, ◌==◌, Bool, true, false, not, ◌&&◌, ◌||◌, List, [], ◌∷◌, Option, Some, None, Result, Ok, Err, length, map, nat_lt, nat_le, is_none, slice_get}
use Rattle.std.specs.List.{list_all, list_any, position_or_len, range_with_len, zip}
use Rattle.std.specs.Str.{bytes_eq}
use Rattle.dv_catalog.specs.declared.entries.HubDef.{HubDef}
use Rattle.dv_catalog.specs.declared.entries.LinkDef.{LinkDef}
use Rattle.dv_catalog.specs.declared.entries.FeedDef.{FeedDef}
use Rattle.dv_catalog.specs.declared.entries.PathDef.{PathDef}
use Rattle.dv_catalog.specs.declared.entries.Parent.{Parent}
use Rattle.dv_catalog.specs.declared.entries.Parent.TheVariants.{Hub, Link}
use Rattle.dv_catalog.specs.declared.map_error.MapError.{MapError}
use Rattle.dv_catalog.specs.declared.outlines.Outline.{Outline}
use Rattle.dv_catalog.specs.declared.outlines.HubOutline.{HubOutline}
use Rattle.dv_catalog.specs.declared.outlines.LinkOutline.{LinkOutline}
use Rattle.dv_catalog.specs.declared.outlines.FeedOutline.{FeedOutline}
use Rattle.dv_catalog.specs.declared.outlines.PathOutline.{PathOutline}
use Rattle.dv_catalog.specs.declared.outlines.ParentName.{ParentName}
use Rattle.dv_catalog.specs.declared.outlines.ParentName.TheVariants.{Hub as HubName, Link as LinkName}
use Rattle.dv_catalog.specs.Checks.{all_columns, fault_of, mapped_count, reference_hubs}
use Rattle.dv_catalog.specs.Entries.{Mapping}
use Rattle.dv_catalog.specs.Feeds.{parent_hubs, parts_of}
use Rattle.dv_catalog.specs.Limits.{is_within, has_column_form, has_name_form, most_columns, most_feeds, most_hubs, most_ignored, most_links, most_parts, most_paths, most_references, most_steps}
use Rattle.dv_catalog.specs.Lookups.{number_twice, text_twice}

-- the place of the first hub with a name; where there is none, the number of hubs
abbrev pub hub_place : List HubOutline → List ℕ → ℕ
hub_place hubs name = position_or_len (λ hub. bytes_eq hub.name name) hubs

-- the same of links
abbrev pub link_place : List LinkOutline → List ℕ → ℕ
link_place links name = position_or_len (λ link. bytes_eq link.name name) links

-- the same of feeds
abbrev pub feed_place : List FeedOutline → List ℕ → ℕ
feed_place feeds name = position_or_len (λ feed. bytes_eq feed.name name) feeds

-- the same of the hubs of a link
abbrev pub reference_place : List (List ℕ) → List ℕ → ℕ
reference_place hubs name = position_or_len (λ hub. bytes_eq hub name) hubs

abbrev pub hub_def : HubOutline → HubDef
hub_def hub = record { name = hub.name; parts = hub.parts }

abbrev pub link_def : List HubOutline → LinkOutline → LinkDef
link_def hubs link = record { name = link.name; hubs = map (hub_place hubs) link.hubs }

abbrev pub parent_def : List HubOutline → List LinkOutline → ParentName → Parent
parent_def hubs links (HubName name) = Hub (hub_place hubs name)
parent_def hubs links (LinkName name) = Link (link_place links name)

-- the driving keys become places among the hubs of the link
abbrev pub feed_def : List HubOutline → List LinkOutline → FeedOutline → FeedDef
feed_def hubs links feed = record {
  name = feed.name;
  source = feed.source;
  parent = parent_def hubs links feed.parent;
  keys = feed.keys;
  sub = feed.sub;
  attrs = feed.attrs;
  ignore = feed.ignore;
  driver = map (reference_place (reference_hubs links feed.parent)) feed.driver;
}

abbrev pub path_def : List HubOutline → List FeedOutline → PathOutline → PathDef
path_def hubs feeds path = record { name = path.name; feeds = map (feed_place feeds) path.feeds; via = map (hub_place hubs) path.via }

-- the mapping, with each name in place of which it stands
abbrev pub mapping_of : Outline → Mapping
mapping_of outline = record {
  hubs = map hub_def outline.hubs;
  links = map (link_def outline.hubs) outline.links;
  feeds = map (feed_def outline.hubs outline.links) outline.feeds;
  paths = map (path_def outline.hubs outline.feeds) outline.paths;
}

abbrev pub unless_fault : Option MapError → Mapping → Result Mapping MapError
unless_fault None mapping = Ok mapping
unless_fault (Some fault) mapping = Err fault

-- the mapping that an outline declares, or its first fault
abbrev pub checked : Outline → Result Mapping MapError
checked outline = unless_fault (fault_of outline) (mapping_of outline)

-- the form that the entries of a file have before names are looked up: parts in range, columns of their form
abbrev pub has_shape : Outline → Bool
has_shape outline =
    list_all (λ hub. is_within 1 most_parts hub.parts) outline.hubs
    && list_all (λ feed. list_all has_column_form (all_columns feed.keys feed.sub feed.attrs feed.ignore)) outline.feeds

abbrev pub is_hub : Mapping → ℕ → Bool
is_hub mapping hub = nat_lt hub (length mapping.hubs)

abbrev pub is_link : Mapping → ℕ → Bool
is_link mapping link = nat_lt link (length mapping.links)

abbrev pub is_valid_hub : HubDef → Bool
is_valid_hub hub = has_name_form hub.name && is_within 1 most_parts hub.parts

-- a link names two to four hubs, each once
abbrev pub is_valid_link : Mapping → LinkDef → Bool
is_valid_link mapping link =
    has_name_form link.name && is_within 2 most_references (length link.hubs) && list_all (is_hub mapping) link.hubs && is_none (number_twice link.hubs)

abbrev pub is_declared : Mapping → Parent → Bool
is_declared mapping (Hub hub) = is_hub mapping hub
is_declared mapping (Link link) = is_link mapping link

-- one list of key columns for each hub, with a column for each part of its business key
abbrev pub keys_fit_hubs : Mapping → List (List (List ℕ)) → List ℕ → Bool
keys_fit_hubs mapping keys hubs =
    (length keys == length hubs) && list_all (λ (columns, hub). length columns == parts_of (slice_get mapping.hubs hub)) (zip keys hubs)

abbrev pub is_of_link : Parent → Bool
is_of_link (Hub hub) = false
is_of_link (Link link) = true

-- a number is among numbers
abbrev pub has_number : List ℕ → ℕ → Bool
has_number numbers number = list_any (λ n. n == number) numbers

-- places of some references of so many, each once, and not all of them
abbrev pub are_some_places : ℕ → List ℕ → Bool
are_some_places count driver =
    list_all (λ place. nat_lt place count) driver && is_none (number_twice driver) && not (list_all (has_number driver) (range_with_len 0 count))

-- no driving keys; or some of the references of a link, and no columns that tell rows apart
abbrev pub is_valid_driver : FeedDef → Bool
is_valid_driver feed =
    (length feed.driver == 0) || (is_of_link feed.parent && are_some_places (length feed.keys) feed.driver && (length feed.sub == 0))

abbrev pub is_valid_feed : Mapping → FeedDef → Bool
is_valid_feed mapping feed =
    let columns = all_columns feed.keys feed.sub feed.attrs feed.ignore in
    has_name_form feed.name && has_name_form feed.source && is_declared mapping feed.parent
    && keys_fit_hubs mapping feed.keys (parent_hubs mapping feed.parent) && list_all has_column_form columns && is_none (text_twice columns)
    && nat_le (mapped_count feed.keys feed.sub feed.attrs) most_columns && nat_le (length feed.ignore) most_ignored
    && ((length feed.sub == 0) || not (length feed.attrs == 0)) && is_valid_driver feed

-- the hubs of a link that is a parent; none of a hub
abbrev pub link_places : Mapping → Parent → List ℕ
link_places mapping (Hub hub) = []
link_places mapping (Link link) = parent_hubs mapping (Link link)

-- the hubs of the link that a feed delivers
abbrev pub step_places : Mapping → Option FeedDef → List ℕ
step_places mapping None = []
step_places mapping (Some feed) = link_places mapping feed.parent

abbrev pub is_link_feed : Option FeedDef → Bool
is_link_feed None = false
is_link_feed (Some feed) = is_of_link feed.parent

-- a hub is one of the link that a feed delivers
abbrev pub is_place_of_step : Mapping → ℕ → ℕ → Bool
is_place_of_step mapping hub feed = has_number (step_places mapping (slice_get mapping.feeds feed)) hub

-- each hub is one of the links of both its neighbours
abbrev pub are_joined_by : Mapping → List ℕ → List ℕ → Bool
are_joined_by mapping [] via = true
are_joined_by mapping (feed ∷ []) via = true
are_joined_by mapping (feed ∷ next ∷ feeds) [] = true
are_joined_by mapping (feed ∷ next ∷ feeds) (hub ∷ via) =
    is_place_of_step mapping hub feed && is_place_of_step mapping hub next && are_joined_by mapping (next ∷ feeds) via

-- a path has one to four feeds of links, and between each and the next a hub that both links have
abbrev pub is_valid_path : Mapping → PathDef → Bool
is_valid_path mapping path =
    has_name_form path.name && is_within 1 most_steps (length path.feeds) && list_all (λ feed. is_link_feed (slice_get mapping.feeds feed)) path.feeds
    && (length path.via + 1 == length path.feeds) && are_joined_by mapping path.feeds path.via

-- what every mapping keeps to: limits, names apart within their kind, and entries of which each is valid
abbrev pub is_valid : Mapping → Bool
is_valid mapping =
    nat_le (length mapping.hubs) most_hubs && nat_le (length mapping.links) most_links && nat_le (length mapping.feeds) most_feeds
    && nat_le (length mapping.paths) most_paths && is_none (text_twice (map (λ hub. hub.name) mapping.hubs))
    && is_none (text_twice (map (λ link. link.name) mapping.links)) && is_none (text_twice (map (λ feed. feed.name) mapping.feeds))
    && is_none (text_twice (map (λ path. path.name) mapping.paths)) && list_all is_valid_hub mapping.hubs
    && list_all (is_valid_link mapping) mapping.links && list_all (is_valid_feed mapping) mapping.feeds
    && list_all (is_valid_path mapping) mapping.paths
