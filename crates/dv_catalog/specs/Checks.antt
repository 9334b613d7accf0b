-- Why a mapping file is refused, once its entries have their form: the first fault by number, and of one
-- number the first place in the file.
use Rattle.std.specs.Prelude.{ℕ, ◌+◌, ◌==◌, Bool, true, false, not, ◌&&◌, List, [], ◌∷◌, ◌++◌, Option, Some, None, codes, length, map, nat_lt, is_some, is_none, if◌then◌else◌, sum_by}
use Rattle.std.specs.List.{find, list_any, list_all, flat_map, filter_map, zip}
use Rattle.std.specs.Option.{option_map, option_map_or, option_and_then, option_or}
use Rattle.std.specs.Str.{bytes_eq}
use Rattle.dv_catalog.specs.declared.map_error.MapError.{MapError}
use Rattle.dv_catalog.specs.declared.map_error.MapError.TheVariants.{NameTwice, UnknownHub, UnknownLink, KeyCount, NoKey, ColumnTwice, SubWithoutAttrs, DriverNotInLink, DriverWithSub, PathBroken, TooMany, NameForm}
use Rattle.dv_catalog.specs.declared.outlines.Outline.{Outline}
use Rattle.dv_catalog.specs.declared.outlines.HubOutline.{HubOutline}
use Rattle.dv_catalog.specs.declared.outlines.LinkOutline.{LinkOutline}
use Rattle.dv_catalog.specs.declared.outlines.FeedOutline.{FeedOutline}
use Rattle.dv_catalog.specs.declared.outlines.PathOutline.{PathOutline}
use Rattle.dv_catalog.specs.declared.outlines.ParentName.{ParentName}
use Rattle.dv_catalog.specs.declared.outlines.ParentName.TheVariants.{Hub, Link}
use Rattle.dv_catalog.specs.FirstOf.{first_along, first_of}
use Rattle.dv_catalog.specs.Limits.{most_hubs, most_links, most_feeds, most_paths, most_references, most_columns, most_ignored, most_steps, has_name_form}
use Rattle.dv_catalog.specs.Lookups.{is_among, text_twice}

-- a link's name, where a link before has it, or else the first hub that the link names twice
abbrev pub again_in_link : List LinkOutline → LinkOutline → Option (List ℕ)
again_in_link before link = option_or (if list_any (λ other. bytes_eq other.name link.name) before then Some link.name else None) (text_twice link.hubs)

-- the first such name of links, after those before
abbrev pub again_in_links : List LinkOutline → List LinkOutline → Option (List ℕ)
again_in_links before links = first_along again_in_link before links

-- the names that stand earlier: among the hubs, among the links or in one, among the feeds, among the paths
abbrev pub again_by_kind : Outline → List (Option (List ℕ))
again_by_kind outline =
    text_twice (map (λ hub. hub.name) outline.hubs) ∷ again_in_links [] outline.links ∷ text_twice (map (λ feed. feed.name) outline.feeds)
    ∷ text_twice (map (λ path. path.name) outline.paths) ∷ []

-- the first of them
abbrev pub first_again : Outline → Option (List ℕ)
first_again outline = first_of (again_by_kind outline)

-- 3: two hubs, two links, two feeds or two paths have one name, or a link names a hub twice
abbrev pub name_twice : Outline → Option MapError
name_twice outline = option_map (λ name. NameTwice name) (first_again outline)

abbrev pub parent_hub : ParentName → Option (List ℕ)
parent_hub (Hub name) = Some name
parent_hub (Link name) = None

abbrev pub parent_link : ParentName → Option (List ℕ)
parent_link (Hub name) = None
parent_link (Link name) = Some name

-- the hubs that links and feeds name, in file order
abbrev pub named_hubs : Outline → List (List ℕ)
named_hubs outline = flat_map (λ link. link.hubs) outline.links ++ filter_map (λ feed. parent_hub feed.parent) outline.feeds

-- the links that feeds name, in file order
abbrev pub named_links : Outline → List (List ℕ)
named_links outline = filter_map (λ feed. parent_link feed.parent) outline.feeds

-- whether a hub of this name is declared
abbrev pub is_hub : Outline → List ℕ → Bool
is_hub outline name = list_any (λ hub. bytes_eq hub.name name) outline.hubs

-- whether a link of this name is declared
abbrev pub is_link : Outline → List ℕ → Bool
is_link outline name = list_any (λ link. bytes_eq link.name name) outline.links

-- 4: a link's hub or a feed's hub is not declared
abbrev pub unknown_hub : Outline → Option MapError
unknown_hub outline = option_map (λ name. UnknownHub name) (find (λ name. not (is_hub outline name)) (named_hubs outline))

-- 5: a feed's link is not declared
abbrev pub unknown_link : Outline → Option MapError
unknown_link outline = option_map (λ name. UnknownLink name) (find (λ name. not (is_link outline name)) (named_links outline))

-- the parts of the business keys of the hub with this name
abbrev pub hub_parts : List HubOutline → List ℕ → ℕ
hub_parts hubs name = option_map_or (λ hub. hub.parts) (find (λ hub. bytes_eq hub.name name) hubs) 0

-- the hubs of the link with this name
abbrev pub link_hub_names : List LinkOutline → List ℕ → List (List ℕ)
link_hub_names links name = option_map_or (λ link. link.hubs) (find (λ link. bytes_eq link.name name) links) []

-- the hubs of a parent's reference lists
abbrev pub reference_hubs : List LinkOutline → ParentName → List (List ℕ)
reference_hubs links (Hub name) = name ∷ []
reference_hubs links (Link name) = link_hub_names links name

-- a feed has one list of key columns for each reference, with a column for each part
abbrev pub keys_fit : Outline → FeedOutline → Bool
keys_fit outline feed =
    let hubs = reference_hubs outline.links feed.parent in
    (length feed.keys == length hubs) && list_all (λ (columns, hub). length columns == hub_parts outline.hubs hub) (zip feed.keys hubs)

-- 6: the key columns of a feed do not fit its references
abbrev pub key_count : Outline → Option MapError
key_count outline = option_map (λ feed. KeyCount feed.name) (find (λ feed. not (keys_fit outline feed)) outline.feeds)

-- 7: a link names fewer than two hubs
abbrev pub no_key : Outline → Option MapError
no_key outline = option_map (λ link. NoKey link.name) (find (λ link. nat_lt (length link.hubs) 2) outline.links)

-- the columns of a feed: of keys, sub, attributes and those ignored
abbrev pub all_columns : List (List (List ℕ)) → List (List ℕ) → List (List ℕ) → List (List ℕ) → List (List ℕ)
all_columns keys sub attrs ignore = flat_map (λ columns. columns) keys ++ sub ++ attrs ++ ignore

-- the first column of a feed that stands twice
abbrev pub column_again : FeedOutline → Option MapError
column_again feed = option_map (λ column. ColumnTwice feed.name column) (text_twice (all_columns feed.keys feed.sub feed.attrs feed.ignore))

-- 8: a column stands twice in one feed
abbrev pub column_twice : Outline → Option MapError
column_twice outline = first_of (map column_again outline.feeds)

-- 9: a feed has columns that tell rows apart, and no attributes
abbrev pub sub_without_attrs : Outline → Option MapError
sub_without_attrs outline =
    option_map
    (λ feed. SubWithoutAttrs feed.name)
    (find (λ feed. not (length feed.sub == 0) && (length feed.attrs == 0)) outline.feeds)

-- some hubs of a link, each once, and not all of them
abbrev pub are_some_hubs : List (List ℕ) → List (List ℕ) → Bool
are_some_hubs hubs driver =
    list_all (λ name. is_among hubs name) driver && is_none (text_twice driver) && not (list_all (λ hub. is_among driver hub) hubs)

-- the driving keys of a feed are some hubs of its link
abbrev pub driver_in_link : List LinkOutline → ParentName → List (List ℕ) → Bool
driver_in_link links (Hub name) driver = false
driver_in_link links (Link name) driver = are_some_hubs (link_hub_names links name) driver

-- 10: a feed has driving keys that are not some hubs of its link, or are all of them
abbrev pub driver_not_in_link : Outline → Option MapError
driver_not_in_link outline =
    option_map
    (λ feed. DriverNotInLink feed.name)
    (find (λ feed. not (length feed.driver == 0) && not (driver_in_link outline.links feed.parent feed.driver)) outline.feeds)

-- 11: a feed has both driving keys and columns that tell rows apart
abbrev pub driver_with_sub : Outline → Option MapError
driver_with_sub outline =
    option_map
    (λ feed. DriverWithSub feed.name)
    (find (λ feed. not (length feed.driver == 0) && not (length feed.sub == 0)) outline.feeds)

-- the hubs of the link that the feed with this name delivers; none where there is no such feed, or it delivers a hub
abbrev pub step_hubs : Outline → List ℕ → Option (List (List ℕ))
step_hubs outline name =
    option_and_then
    (λ feed. option_map (λ link. link_hub_names outline.links link) (parent_link feed.parent))
    (find (λ feed. bytes_eq feed.name name) outline.feeds)

-- a hub is one of the link that the feed with this name delivers
abbrev pub is_hub_of_step : Outline → List ℕ → List ℕ → Bool
is_hub_of_step outline hub feed = option_map_or (λ hubs. is_among hubs hub) (step_hubs outline feed) false

-- each hub is one of the links of both its neighbours
abbrev pub are_joined : Outline → List (List ℕ) → List (List ℕ) → Bool
are_joined outline [] via = true
are_joined outline (feed ∷ []) via = true
are_joined outline (feed ∷ next ∷ feeds) [] = true
are_joined outline (feed ∷ next ∷ feeds) (hub ∷ via) = is_hub_of_step outline hub feed && is_hub_of_step outline hub next && are_joined outline (next ∷ feeds) via

-- a path has feeds of links, and between each and the next a hub that both links have
abbrev pub is_path : Outline → PathOutline → Bool
is_path outline path =
    not (length path.feeds == 0) && list_all (λ feed. is_some (step_hubs outline feed)) path.feeds && (length path.via + 1 == length path.feeds)
    && are_joined outline path.feeds path.via

-- 12: the feeds of a path are not joined by hubs
abbrev pub path_broken : Outline → Option MapError
path_broken outline = option_map (λ path. PathBroken path.name) (find (λ path. not (is_path outline path)) outline.paths)

-- how many columns of a feed are mapped
abbrev pub mapped_count : List (List (List ℕ)) → List (List ℕ) → List (List ℕ) → ℕ
mapped_count keys sub attrs = sum_by length keys + length sub + length attrs

abbrev pub kind_if : Bool → List ℕ → Option (List ℕ)
kind_if over kind = if over then Some kind else None

-- the limits that are passed, by what they count
abbrev pub over_limits : Outline → List (Option (List ℕ))
over_limits outline =
    kind_if (nat_lt most_hubs (length outline.hubs)) (codes "hubs") ∷ kind_if (nat_lt most_links (length outline.links)) (codes "links")
    ∷ kind_if (nat_lt most_feeds (length outline.feeds)) (codes "feeds") ∷ kind_if (nat_lt most_paths (length outline.paths)) (codes "paths")
    ∷ kind_if (list_any (λ link. nat_lt most_references (length link.hubs)) outline.links) (codes "references")
    ∷ kind_if (list_any (λ feed. nat_lt most_columns (mapped_count feed.keys feed.sub feed.attrs)) outline.feeds) (codes "columns")
    ∷ kind_if (list_any (λ feed. nat_lt most_ignored (length feed.ignore)) outline.feeds) (codes "ignored")
    ∷ kind_if (list_any (λ path. nat_lt most_steps (length path.feeds)) outline.paths) (codes "steps") ∷ []

-- the first limit that is passed
abbrev pub first_over : Outline → Option (List ℕ)
first_over outline = first_of (over_limits outline)

-- 13: there are more entries, or more in an entry, than the limits let in
abbrev pub too_many : Outline → Option MapError
too_many outline = option_map (λ kind. TooMany kind) (first_over outline)

-- the names and sources of all entries, in file order
abbrev pub all_names : Outline → List (List ℕ)
all_names outline =
    map (λ hub. hub.name) outline.hubs ++ map (λ link. link.name) outline.links ++ flat_map (λ feed. feed.name ∷ feed.source ∷ []) outline.feeds
    ++ map (λ path. path.name) outline.paths

-- 14: a name or source has another form than 1 to 40 bytes of a to z, 0 to 9 and underscore
abbrev pub name_form : Outline → Option MapError
name_form outline = option_map (λ name. NameForm name) (find (λ name. not (has_name_form name)) (all_names outline))

-- the faults of a mapping file whose entries have their form, by their numbers
abbrev pub faults : Outline → List (Option MapError)
faults outline =
    name_twice outline ∷ unknown_hub outline ∷ unknown_link outline ∷ key_count outline ∷ no_key outline ∷ column_twice outline
    ∷ sub_without_attrs outline ∷ driver_not_in_link outline ∷ driver_with_sub outline ∷ path_broken outline ∷ too_many outline
    ∷ name_form outline ∷ []

-- the first of them
abbrev pub fault_of : Outline → Option MapError
fault_of outline = first_of (faults outline)
