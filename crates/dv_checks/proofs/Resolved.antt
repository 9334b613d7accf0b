-- What the places of names lead to.
use Rattle.dv_checks.proofs.Vocabulary.{Bool, Contains-map, FeedOutline, Hub, HubOutline, Link, LinkOutline, List, None, Option, Outline, ParentName, Some, [], and_from, and_parts, ap, are_joined_by, bytes_eq, bytes_eq-Decides, eq-eqb, false, feed_def, feed_place, find, find_at, has_number}
use Rattle.dv_checks.proofs.Vocabulary.{hub_def, hub_place, is_among, is_link_feed, is_of_link, is_place_of_step, is_some, length, link_def, link_hubs, link_place, link_places, list_all, map, mapping_of, option_and_then, option_map, option_map_or, parent_def, parent_hubs, parts_of}
use Rattle.dv_checks.proofs.Vocabulary.{position_or_len, refl, slice_get, slice_get-map, some_passes, some_passes_at, step_places, sym, true, zip, ℕ, ◌&&◌, ◌==◌, ◌∙◌, ◌∷◌, ◌≡◌}
use Rattle.dv_catalog.specs.Checks as spec

-- what stands at the place of the first item that passes, after a function of all items
pub at_place : {X Y : Type 0} (f : X → Y) (p : X → Bool) (xs : List X) → slice_get (map f xs) (position_or_len p xs) ≡ option_map f (find p xs)
at_place f p xs = slice_get-map f xs (position_or_len p xs) ∙ ap (option_map f) (sym (find_at p xs))

-- the hubs of the link at the place of a name
pub hubs_at_link : (hubs : List HubOutline) (links : List LinkOutline) (name : List ℕ)
    → link_hubs (slice_get (map (link_def hubs) links) (link_place links name)) ≡ map (hub_place hubs) (spec.link_hub_names links name)
hubs_at_link hubs links name = ap link_hubs (at_place (link_def hubs) (λ link. bytes_eq link.name name) links) ∙ by (find (λ link. bytes_eq link.name name) links)
  where
    by : (found : Option LinkOutline) → link_hubs (option_map (link_def hubs) found) ≡ map (hub_place hubs) (option_map_or (λ link. link.hubs) found [])
    by None = refl
    by (Some link) = refl

-- the hubs of a parent are those that its name stands for
pub hubs_of_parent : (o : Outline) (parent : ParentName)
    → parent_hubs (mapping_of o) (parent_def o.hubs o.links parent) ≡ map (hub_place o.hubs) (spec.reference_hubs o.links parent)
hubs_of_parent o (Hub name) = refl
hubs_of_parent o (Link name) = hubs_at_link o.hubs o.links name

-- the parts of the hub at the place of a name
pub parts_at_hub : (hubs : List HubOutline) (name : List ℕ) → parts_of (slice_get (map hub_def hubs) (hub_place hubs name)) ≡ spec.hub_parts hubs name
parts_at_hub hubs name = ap parts_of (at_place hub_def (λ hub. bytes_eq hub.name name) hubs) ∙ by (find (λ hub. bytes_eq hub.name name) hubs)
  where
    by : (found : Option HubOutline) → parts_of (option_map hub_def found) ≡ option_map_or (λ hub. hub.parts) found 0
    by None = refl
    by (Some hub) = refl

-- key columns fit hubs by place where they fit them by name
pub columns_fit : (hubs : List HubOutline) (keys : List (List (List ℕ))) (names : List (List ℕ))
    → list_all (λ (columns, hub). length columns == parts_of (slice_get (map hub_def hubs) hub)) (zip keys (map (hub_place hubs) names))
    ≡ list_all (λ (columns, name). length columns == spec.hub_parts hubs name) (zip keys names)
columns_fit hubs [] names = refl
columns_fit hubs (columns ∷ keys) [] = refl
columns_fit hubs (columns ∷ keys) (name ∷ names) = rw (parts_at_hub hubs name, columns_fit hubs keys names) refl

-- a name among names has its place among their places
pub place_among : (hubs : List HubOutline) (names : List (List ℕ)) (name : List ℕ) → is_among names name ≡ true → has_number (map (hub_place hubs) names) (hub_place hubs name) ≡ true
place_among hubs names name e =
    let (n, has, same) = some_passes (λ t. bytes_eq t name) names e in
    let is : n ≡ name = (bytes_eq-Decides n name).0 same in
    some_passes_at (λ k. k == hub_place hubs name) (map (hub_place hubs) names) (hub_place hubs n) (Contains-map (hub_place hubs) names n has) (eq-eqb _ _ (ap (hub_place hubs) is))

-- the feed at the place of a name
pub at_feed : (o : Outline) (name : List ℕ) → slice_get (mapping_of o).feeds (feed_place o.feeds name) ≡ option_map (feed_def o.hubs o.links) (find (λ feed. bytes_eq feed.name name) o.feeds)
at_feed o name = at_place (feed_def o.hubs o.links) (λ feed. bytes_eq feed.name name) o.feeds

abbrev step_of : Outline → Option FeedOutline → Option (List (List ℕ))
step_of o found = option_and_then (λ feed. option_map (λ link. spec.link_hub_names o.links link) (spec.parent_link feed.parent)) found

-- the feed of a step is one of a link, by place as by name
pub is_step : (o : Outline) (name : List ℕ) → is_link_feed (slice_get (mapping_of o).feeds (feed_place o.feeds name)) ≡ is_some (spec.step_hubs o name)
is_step o name = ap is_link_feed (at_feed o name) ∙ by (find (λ feed. bytes_eq feed.name name) o.feeds)
  where
    of_parent : (parent : ParentName) → is_of_link (parent_def o.hubs o.links parent) ≡ is_some (option_map (λ link. spec.link_hub_names o.links link) (spec.parent_link parent))
    of_parent (Hub hub) = refl
    of_parent (Link link) = refl

    by : (found : Option FeedOutline) → is_link_feed (option_map (feed_def o.hubs o.links) found) ≡ is_some (step_of o found)
    by None = refl
    by (Some feed) = of_parent feed.parent

-- the places of a step are those of its hubs
pub places_of_step : (o : Outline) (place : ℕ) (name : List ℕ)
    → is_place_of_step (mapping_of o) place (feed_place o.feeds name) ≡ option_map_or (λ hubs. has_number (map (hub_place o.hubs) hubs) place) (spec.step_hubs o name) false
places_of_step o place name = ap (λ found. has_number (step_places (mapping_of o) found) place) (at_feed o name) ∙ by (find (λ feed. bytes_eq feed.name name) o.feeds)
  where
    of_parent : (parent : ParentName) → has_number (link_places (mapping_of o) (parent_def o.hubs o.links parent)) place
        ≡ option_map_or (λ hubs. has_number (map (hub_place o.hubs) hubs) place) (option_map (λ link. spec.link_hub_names o.links link) (spec.parent_link parent)) false
    of_parent (Hub hub) = refl
    of_parent (Link link) = ap (λ hubs. has_number hubs place) (hubs_at_link o.hubs o.links link)

    by : (found : Option FeedOutline) → has_number (step_places (mapping_of o) (option_map (feed_def o.hubs o.links) found)) place
        ≡ option_map_or (λ hubs. has_number (map (hub_place o.hubs) hubs) place) (step_of o found) false
    by None = refl
    by (Some feed) = of_parent feed.parent

-- a hub of a step is one of the link that its feed delivers
pub hub_of_step : (o : Outline) (hub feed : List ℕ) → spec.is_hub_of_step o hub feed ≡ true → is_place_of_step (mapping_of o) (hub_place o.hubs hub) (feed_place o.feeds feed) ≡ true
hub_of_step o hub name e = places_of_step o (hub_place o.hubs hub) name ∙ by (spec.step_hubs o name) e
  where
    by : (found : Option (List (List ℕ))) → option_map_or (λ hubs. is_among hubs hub) found false ≡ true
        → option_map_or (λ hubs. has_number (map (hub_place o.hubs) hubs) (hub_place o.hubs hub)) found false ≡ true
    by None e = e
    by (Some hubs) e = place_among o.hubs hubs hub e

-- feeds that are joined by name are joined by place
pub joined_by_place : (o : Outline) (feeds via : List (List ℕ)) → spec.are_joined o feeds via ≡ true
    → are_joined_by (mapping_of o) (map (feed_place o.feeds) feeds) (map (hub_place o.hubs) via) ≡ true
joined_by_place o [] via e = refl
joined_by_place o (feed ∷ []) via e = refl
joined_by_place o (feed ∷ next ∷ feeds) [] e = refl
joined_by_place o (feed ∷ next ∷ feeds) (hub ∷ via) e =
    let parts = and_parts (spec.is_hub_of_step o hub feed && spec.is_hub_of_step o hub next) _ e in
    let ends = and_parts (spec.is_hub_of_step o hub feed) _ parts.0 in
    and_from _ _ (and_from _ _ (hub_of_step o hub feed ends.0) (hub_of_step o hub next ends.1)) (joined_by_place o (next ∷ feeds) via parts.1)
