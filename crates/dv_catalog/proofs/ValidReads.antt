-- What a valid mapping keeps to, part by part.
use Rattle.dv_catalog.proofs.Vocabulary.{FeedDef, HubDef, LinkDef, Mapping, None, PathDef, Some, all_columns, and_parts, are_joined_by, arith, eqb-true, has_column_form, has_name_form, is_declared, is_hub, is_link_feed, is_none, is_valid, is_valid_driver, is_valid_feed, is_valid_hub}
use Rattle.dv_catalog.proofs.Vocabulary.{is_valid_link, is_valid_path, is_within, length, list_all, map, mapped_count, most_columns, most_feeds, most_hubs, most_ignored, most_links, most_parts, most_paths, most_references, most_steps, nat_le, nat_tests, none_from, not, number_twice, parent_hubs}
use Rattle.dv_catalog.proofs.Vocabulary.{parts_of, passes_got, slice_get, text_twice, true, zip, ℕ, ◌&&◌, ◌+◌, ◌==◌, ◌||◌, ◌≡◌, ◌≤◌}

pub record ValidParts (mapping : Mapping) : Type 0 where
  pub few_hubs : length mapping.hubs ≤ most_hubs
  pub few_links : length mapping.links ≤ most_links
  pub few_feeds : length mapping.feeds ≤ most_feeds
  pub few_paths : length mapping.paths ≤ most_paths
  pub hubs_apart : is_none (text_twice (map (λ hub. hub.name) mapping.hubs)) ≡ true
  pub links_apart : is_none (text_twice (map (λ link. link.name) mapping.links)) ≡ true
  pub feeds_apart : is_none (text_twice (map (λ feed. feed.name) mapping.feeds)) ≡ true
  pub paths_apart : is_none (text_twice (map (λ path. path.name) mapping.paths)) ≡ true
  pub hubs : list_all is_valid_hub mapping.hubs ≡ true
  pub links : list_all (is_valid_link mapping) mapping.links ≡ true
  pub feeds : list_all (is_valid_feed mapping) mapping.feeds ≡ true
  pub paths : list_all (is_valid_path mapping) mapping.paths ≡ true

at_most : (n most : ℕ) → nat_le n most ≡ true → n ≤ most
at_most n most e = grind (arith, nat_tests, e)

pub valid_parts : (mapping : Mapping) → is_valid mapping ≡ true → ValidParts mapping
valid_parts m e =
    let (e1, paths) = and_parts _ (list_all (is_valid_path m) m.paths) e in
    let (e2, feeds) = and_parts _ (list_all (is_valid_feed m) m.feeds) e1 in
    let (e3, links) = and_parts _ (list_all (is_valid_link m) m.links) e2 in
    let (e4, hubs) = and_parts _ (list_all is_valid_hub m.hubs) e3 in
    let (e5, paths_apart) = and_parts _ (is_none (text_twice (map (λ path. path.name) m.paths))) e4 in
    let (e6, feeds_apart) = and_parts _ (is_none (text_twice (map (λ feed. feed.name) m.feeds))) e5 in
    let (e7, links_apart) = and_parts _ (is_none (text_twice (map (λ link. link.name) m.links))) e6 in
    let (e8, hubs_apart) = and_parts _ (is_none (text_twice (map (λ hub. hub.name) m.hubs))) e7 in
    let (e9, few_paths) = and_parts _ (nat_le (length m.paths) most_paths) e8 in
    let (e10, few_feeds) = and_parts _ (nat_le (length m.feeds) most_feeds) e9 in
    let (few_hubs, few_links) = and_parts (nat_le (length m.hubs) most_hubs) (nat_le (length m.links) most_links) e10 in
    record {
      few_hubs = at_most (length m.hubs) most_hubs few_hubs;
      few_links = at_most (length m.links) most_links few_links;
      few_feeds = at_most (length m.feeds) most_feeds few_feeds;
      few_paths = at_most (length m.paths) most_paths few_paths;
      hubs_apart = hubs_apart;
      links_apart = links_apart;
      feeds_apart = feeds_apart;
      paths_apart = paths_apart;
      hubs = hubs;
      links = links;
      feeds = feeds;
      paths = paths;
    }

within : (low high n : ℕ) → is_within low high n ≡ true → (low ≤ n) × (n ≤ high)
within low high n e =
    let parts = and_parts (nat_le low n) (nat_le n high) e in
    (grind (arith, nat_tests, parts.0), grind (arith, nat_tests, parts.1))

pub record ValidHub (hub : HubDef) : Type 0 where
  pub named : has_name_form hub.name ≡ true
  pub some_parts : 1 ≤ hub.parts
  pub few_parts : hub.parts ≤ most_parts

-- what a hub of a valid mapping keeps to
pub valid_hub : (m : Mapping) → is_valid m ≡ true → (i : ℕ) (hub : HubDef) → slice_get m.hubs i ≡ Some hub → ValidHub hub
valid_hub m valid i hub got =
    let (named, parts) = and_parts (has_name_form hub.name) (is_within 1 most_parts hub.parts) (passes_got is_valid_hub m.hubs i hub (valid_parts m valid).hubs got) in
    let bounds = within 1 most_parts hub.parts parts in
    record { named = named; some_parts = bounds.0; few_parts = bounds.1 }

pub record ValidLink (m : Mapping) (link : LinkDef) : Type 0 where
  pub named : has_name_form link.name ≡ true
  pub some_hubs : 2 ≤ length link.hubs
  pub few_hubs : length link.hubs ≤ most_references
  pub in_range : list_all (is_hub m) link.hubs ≡ true
  pub apart : number_twice link.hubs ≡ None

-- what a link of a valid mapping keeps to
pub valid_link : (m : Mapping) → is_valid m ≡ true → (i : ℕ) (link : LinkDef) → slice_get m.links i ≡ Some link → ValidLink m link
valid_link m valid i link got =
    let (e1, apart) = and_parts _ (is_none (number_twice link.hubs)) (passes_got (is_valid_link m) m.links i link (valid_parts m valid).links got) in
    let (e2, in_range) = and_parts _ (list_all (is_hub m) link.hubs) e1 in
    let (named, count) = and_parts (has_name_form link.name) (is_within 2 most_references (length link.hubs)) e2 in
    let bounds = within 2 most_references (length link.hubs) count in
    record { named = named; some_hubs = bounds.0; few_hubs = bounds.1; in_range = in_range; apart = none_from (number_twice link.hubs) apart }

pub record ValidFeed (m : Mapping) (feed : FeedDef) : Type 0 where
  pub named : has_name_form feed.name ≡ true
  pub sourced : has_name_form feed.source ≡ true
  pub declared : is_declared m feed.parent ≡ true
  pub as_many_keys : length feed.keys ≡ length (parent_hubs m feed.parent)
  pub parts : list_all (λ (columns, hub). length columns == parts_of (slice_get m.hubs hub)) (zip feed.keys (parent_hubs m feed.parent)) ≡ true
  pub formed : list_all has_column_form (all_columns feed.keys feed.sub feed.attrs feed.ignore) ≡ true
  pub apart : text_twice (all_columns feed.keys feed.sub feed.attrs feed.ignore) ≡ None
  pub few_columns : mapped_count feed.keys feed.sub feed.attrs ≤ most_columns
  pub few_ignored : length feed.ignore ≤ most_ignored
  pub described : ((length feed.sub == 0) || not (length feed.attrs == 0)) ≡ true
  pub driver : is_valid_driver feed ≡ true

-- what a feed of a valid mapping keeps to
pub valid_feed : (m : Mapping) → is_valid m ≡ true → (i : ℕ) (feed : FeedDef) → slice_get m.feeds i ≡ Some feed → ValidFeed m feed
valid_feed m valid i feed got =
    let columns = all_columns feed.keys feed.sub feed.attrs feed.ignore in
    let (e1, driver) = and_parts _ (is_valid_driver feed) (passes_got (is_valid_feed m) m.feeds i feed (valid_parts m valid).feeds got) in
    let (e2, described) = and_parts _ ((length feed.sub == 0) || not (length feed.attrs == 0)) e1 in
    let (e3, few_ignored) = and_parts _ (nat_le (length feed.ignore) most_ignored) e2 in
    let (e4, few_columns) = and_parts _ (nat_le (mapped_count feed.keys feed.sub feed.attrs) most_columns) e3 in
    let (e5, apart) = and_parts _ (is_none (text_twice columns)) e4 in
    let (e6, formed) = and_parts _ (list_all has_column_form columns) e5 in
    let fits = list_all (λ (columns, hub). length columns == parts_of (slice_get m.hubs hub)) (zip feed.keys (parent_hubs m feed.parent)) in
    let (e7, keys) = and_parts _ ((length feed.keys == length (parent_hubs m feed.parent)) && fits) e6 in
    let (as_many, parts) = and_parts (length feed.keys == length (parent_hubs m feed.parent)) fits keys in
    let (e8, declared) = and_parts _ (is_declared m feed.parent) e7 in
    let (named, sourced) = and_parts (has_name_form feed.name) (has_name_form feed.source) e8 in
    record {
      named = named;
      sourced = sourced;
      declared = declared;
      as_many_keys = eqb-true _ _ as_many;
      parts = parts;
      formed = formed;
      apart = none_from (text_twice columns) apart;
      few_columns = at_most (mapped_count feed.keys feed.sub feed.attrs) most_columns few_columns;
      few_ignored = at_most (length feed.ignore) most_ignored few_ignored;
      described = described;
      driver = driver;
    }

pub record ValidPath (m : Mapping) (path : PathDef) : Type 0 where
  pub named : has_name_form path.name ≡ true
  pub some_feeds : 1 ≤ length path.feeds
  pub few_feeds : length path.feeds ≤ most_steps
  pub of_links : list_all (λ feed. is_link_feed (slice_get m.feeds feed)) path.feeds ≡ true
  pub one_less : length path.via + 1 ≡ length path.feeds
  pub joined : are_joined_by m path.feeds path.via ≡ true

-- what a path of a valid mapping keeps to
pub valid_path : (m : Mapping) → is_valid m ≡ true → (i : ℕ) (path : PathDef) → slice_get m.paths i ≡ Some path → ValidPath m path
valid_path m valid i path got =
    let (e1, joined) = and_parts _ (are_joined_by m path.feeds path.via) (passes_got (is_valid_path m) m.paths i path (valid_parts m valid).paths got) in
    let (e2, one_less) = and_parts _ (length path.via + 1 == length path.feeds) e1 in
    let (e3, of_links) = and_parts _ (list_all (λ feed. is_link_feed (slice_get m.feeds feed)) path.feeds) e2 in
    let (named, count) = and_parts (has_name_form path.name) (is_within 1 most_steps (length path.feeds)) e3 in
    let bounds = within 1 most_steps (length path.feeds) count in
    record {
      named = named;
      some_feeds = bounds.0;
      few_feeds = bounds.1;
      of_links = of_links;
      one_less = eqb-true _ _ one_less;
      joined = joined;
    }
