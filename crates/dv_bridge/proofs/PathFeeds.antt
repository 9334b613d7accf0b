-- What a path of a valid mapping says of its feeds, and what a feed says of its hubs and of the table of its link.
use Rattle.dv_bridge.proofs.Vocabulary.{Contains, FeedDef, Hub, Link, LinkDef, LinkRow, List, Mapping, None, Option, Parent, PathDef, Some, TableRows, ValidPath, and_from, ap, arith, feed_hubs, feed_links, get_or, got_here, hubs_by, is_declared, is_hub, is_link_feed, is_valid, length, link_hubs}
use Rattle.dv_bridge.proofs.Vocabulary.{link_rows_in, links_at, links_by, list_all, most_references, parent_hubs, parent_links, passes_got, refl, slice_get, slice_get-get_or, slice_get_within, status_rows_in, subst, sym, true, valid_feed, valid_link, valid_path, ℕ, ◌<◌, ◌∙◌, ◌≡◌, ◌≤◌}
use Rattle.dv_bridge.proofs.FeedLinks.{link_feed}

-- ---- a feed of a link

-- it is in the mapping
pub feed_within : (mapping : Mapping) (feed : ℕ) → is_link_feed (slice_get mapping.feeds feed) ≡ true → feed < length mapping.feeds
feed_within mapping feed is = let its = link_feed mapping feed is in slice_get_within mapping.feeds feed its.definition its.at

-- the rows of its link that it has at a date
pub links_are : (mapping : Mapping) (tables : List TableRows) (feed link : ℕ) (definition : FeedDef) (rows : List LinkRow) → slice_get mapping.feeds feed ≡ Some definition → definition.parent ≡ Link link → rows ≡ link_rows_in link tables
    → (date : ℕ) → feed_links mapping tables date feed ≡ links_at rows (status_rows_in feed tables) date
links_are mapping tables feed link definition rows at parent rows_are date =
    ap (links_by tables date feed) at
    ∙ ap (λ (p : Parent). links_at (parent_links tables p) (status_rows_in feed tables) date) parent
    ∙ ap (λ (rows : List LinkRow). links_at rows (status_rows_in feed tables) date) (sym rows_are)

-- ---- the hubs of a feed

module _ (mapping : Mapping) (valid : is_valid mapping ≡ true) where
  few_of_link : (link : ℕ) (o : Option LinkDef) → slice_get mapping.links link ≡ o → length (link_hubs o) ≤ most_references
  few_of_link link None at = omega arith
  few_of_link link (Some found) at = (valid_link mapping valid link found at).few_hubs

  few_of_parent : (parent : Parent) → length (parent_hubs mapping parent) ≤ most_references
  few_of_parent (Hub hub) = omega arith
  few_of_parent (Link link) = few_of_link link (slice_get mapping.links link) refl

  few_of_feed : (o : Option FeedDef) → length (hubs_by mapping o) ≤ most_references
  few_of_feed None = omega arith
  few_of_feed (Some feed) = few_of_parent feed.parent

  -- they are few
  pub few_hubs : (feed : ℕ) → length (feed_hubs mapping feed) ≤ most_references
  few_hubs feed = few_of_feed (slice_get mapping.feeds feed)

  pub few_named : (catalog : Mapping) (hubs : List ℕ) (feed : ℕ) → catalog ≡ mapping → hubs ≡ feed_hubs catalog feed → length hubs ≤ most_references
  few_named catalog hubs feed same are = subst (λ hubs. length hubs ≤ most_references) (sym (are ∙ ap (λ m. feed_hubs m feed) same)) (few_hubs feed)

  within_link : (link : ℕ) (o : Option LinkDef) → slice_get mapping.links link ≡ o → list_all (is_hub mapping) (link_hubs o) ≡ true
  within_link link None at = refl
  within_link link (Some found) at = (valid_link mapping valid link found at).in_range

  within_parent : (parent : Parent) → is_declared mapping parent ≡ true → list_all (is_hub mapping) (parent_hubs mapping parent) ≡ true
  within_parent (Hub hub) there = and_from (is_hub mapping hub) true there refl
  within_parent (Link link) there = within_link link (slice_get mapping.links link) refl

  within_feed : (feed : ℕ) (o : Option FeedDef) → slice_get mapping.feeds feed ≡ o → list_all (is_hub mapping) (hubs_by mapping o) ≡ true
  within_feed feed None at = refl
  within_feed feed (Some definition) at = within_parent definition.parent (valid_feed mapping valid feed definition at).declared

  -- they are in the mapping
  pub hubs_within : (feed : ℕ) → list_all (is_hub mapping) (feed_hubs mapping feed) ≡ true
  hubs_within feed = within_feed feed (slice_get mapping.feeds feed) refl

  pub named_within : (catalog : Mapping) (hubs : List ℕ) (feed : ℕ) → catalog ≡ mapping → hubs ≡ feed_hubs catalog feed → list_all (is_hub mapping) hubs ≡ true
  named_within catalog hubs feed same are = ap (list_all (is_hub mapping)) (are ∙ ap (λ m. feed_hubs m feed) same) ∙ hubs_within feed

-- ---- a path

-- a number of a list that has another name
pub got_named : (named numbers : List ℕ) (n : ℕ) → named ≡ numbers → n < length numbers → slice_get numbers n ≡ Some (get_or named n 0)
got_named named numbers n same under = slice_get-get_or numbers n 0 under ∙ ap (λ all. Some (get_or all n 0)) (sym same)

-- what a path of the mapping keeps to
pub path_facts : (mapping : Mapping) → is_valid mapping ≡ true → (path : PathDef) → Contains mapping.paths path → ValidPath mapping path
path_facts mapping valid path has = valid_path mapping valid has.0 path (got_here mapping.paths has.0 path has.1 (sym has.2))

-- so is each feed of a list of such
pub link_feed_at : (mapping : Mapping) (feeds : List ℕ) (n : ℕ) → list_all (λ feed. is_link_feed (slice_get mapping.feeds feed)) feeds ≡ true → n < length feeds → is_link_feed (slice_get mapping.feeds (get_or feeds n 0)) ≡ true
link_feed_at mapping feeds n all under = passes_got (λ feed. is_link_feed (slice_get mapping.feeds feed)) feeds n (get_or feeds n 0) all (slice_get-get_or feeds n 0 under)
