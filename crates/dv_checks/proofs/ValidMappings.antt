-- The mapping of an outline without a fault is valid.
use Rattle.dv_checks.proofs.Vocabulary.{FeedDef, Hub, HubDef, Link, LinkDef, LinkOutline, List, None, Option, Outline, ParentName, PathDef, Some, [], ap, arith, bytes_eq, feed_def, find, found_member, has_shape, hub_def, is_none, is_valid, length, length-map, link_def, lit<, map, map-map}
use Rattle.dv_checks.proofs.Vocabulary.{mapping_of, most_feeds, most_hubs, most_links, most_paths, most_references, nat_le, nat_lt, nat_tests, none_passes, option_map_or, path_def, refl, text_twice, true, ℕ, ◌<◌, ◌^◌, ◌∙◌, ◌≡◌}
use Rattle.dv_checks.proofs.{Apart.link_names_once, Faultless.faultless, Faultless.keeps_limits, ValidEntries.at_most, ValidEntries.feeds_valid, ValidEntries.hubs_valid, ValidEntries.links_valid, ValidEntries.none_is_none, ValidEntries.paths_valid}
use Rattle.dv_catalog.specs.Checks as spec

-- names keep standing once
once : {X Y : Type 0} (name_of : Y → List ℕ) (f : X → Y) (xs : List X) → text_twice (map (λ x. name_of (f x)) xs) ≡ None → is_none (text_twice (map name_of (map f xs))) ≡ true
once name_of f xs e = none_is_none _ (ap text_twice (map-map name_of f xs) ∙ e)

few : {X Y : Type 0} (f : X → Y) (xs : List X) (most : ℕ) → nat_le (length xs) most ≡ true → nat_le (length (map f xs)) most ≡ true
few f xs most e = rw (length-map xs f) e

pub mapping_valid : (o : Outline) → spec.fault_of o ≡ None → has_shape o ≡ true → is_valid (mapping_of o) ≡ true
mapping_valid o e shape =
    let ok = faultless o e in
    let limits = keeps_limits o ok.over in
    let (hubs_once, (links_again, (feeds_once, (paths_once, end)))) = ok.again in
    let few_hubs = few hub_def o.hubs most_hubs (at_most (length o.hubs) most_hubs limits.hubs) in
    let few_links = few (link_def o.hubs) o.links most_links (at_most (length o.links) most_links limits.links) in
    let few_feeds = few (feed_def o.hubs o.links) o.feeds most_feeds (at_most (length o.feeds) most_feeds limits.feeds) in
    let few_paths = few (path_def o.hubs o.feeds) o.paths most_paths (at_most (length o.paths) most_paths limits.paths) in
    let hubs_apart = once (λ hub. hub.name) hub_def o.hubs hubs_once in
    let links_apart = once (λ link. link.name) (link_def o.hubs) o.links (link_names_once o.links links_again) in
    let feeds_apart = once (λ feed. feed.name) (feed_def o.hubs o.links) o.feeds feeds_once in
    let paths_apart = once (λ path. path.name) (path_def o.hubs o.feeds) o.paths paths_once in
    rw (few_hubs, few_links, few_feeds, few_paths, hubs_apart, links_apart, feeds_apart, paths_apart, hubs_valid o ok shape, links_valid o ok, feeds_valid o ok shape, paths_valid o ok) refl

-- a reference list of an outline without a fault is short
pub few_references : (o : Outline) → spec.fault_of o ≡ None → (parent : ParentName) → length (spec.reference_hubs o.links parent) < 2 ^ 32
few_references o e (Hub name) = lit< tt
few_references o e (Link name) = by (find (λ link. bytes_eq link.name name) o.links) refl
  where
    by : (found : Option LinkOutline) → find (λ link. bytes_eq link.name name) o.links ≡ found → length (option_map_or (λ link. link.hubs) found []) < 2 ^ 32
    by None is = lit< tt
    by (Some link) is =
        let limits = keeps_limits o (faultless o e).over in
        let few = none_passes (λ link. nat_lt most_references (length link.hubs)) o.links link limits.references (found_member (λ link. bytes_eq link.name name) o.links link is).0 in
        grind (arith, nat_tests, few)

-- an outline without a fault has few feeds
pub few_feeds : (o : Outline) → spec.fault_of o ≡ None → length o.feeds < 2 ^ 32
few_feeds o e =
    let limits = keeps_limits o (faultless o e).over in
    let few = limits.feeds in
    grind (arith, nat_tests, few)

-- the parts of the mapping, each made from what was read
pub record AreParts (o : Outline) (hubs : List HubDef) (links : List LinkDef) (feeds : List FeedDef) (paths : List PathDef) : Type 0 where
  pub hubs_made : hubs ≡ map hub_def o.hubs
  pub links_made : links ≡ map (link_def o.hubs) o.links
  pub feeds_made : feeds ≡ map (feed_def o.hubs o.links) o.feeds
  pub paths_made : paths ≡ map (path_def o.hubs o.feeds) o.paths

pub parts_valid : (o : Outline) (hubs : List HubDef) (links : List LinkDef) (feeds : List FeedDef) (paths : List PathDef) → AreParts o hubs links feeds paths
    → spec.fault_of o ≡ None → has_shape o ≡ true → is_valid (record { hubs = hubs; links = links; feeds = feeds; paths = paths }) ≡ true
parts_valid o hubs links feeds paths are faultless shape = rw (are.hubs_made, are.links_made, are.feeds_made, are.paths_made) (mapping_valid o faultless shape)
