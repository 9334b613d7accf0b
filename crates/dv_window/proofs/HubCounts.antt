-- How many hubs the links of a path's feeds have: a few.
use Rattle.dv_window.proofs.Vocabulary.{FeedDef, Hub, Link, LinkDef, Mapping, None, Option, Parent, Some, arith, feed_hubs, hubs_by, is_valid, length, link_hubs, most_references, parent_hubs, refl, slice_get, true, valid_link, ℕ, ◌≡◌, ◌≤◌}

module _ (mapping : Mapping) (valid : is_valid mapping ≡ true) where
  few_of_link : (link : ℕ) (o : Option LinkDef) → slice_get mapping.links link ≡ o → length (link_hubs o) ≤ most_references
  few_of_link link None e = omega arith
  few_of_link link (Some definition) e = (valid_link mapping valid link definition e).few_hubs

  few_of_parent : (parent : Parent) → length (parent_hubs mapping parent) ≤ most_references
  few_of_parent (Hub hub) = omega arith
  few_of_parent (Link link) = few_of_link link (slice_get mapping.links link) refl

  few_by : (o : Option FeedDef) → length (hubs_by mapping o) ≤ most_references
  few_by None = omega arith
  few_by (Some definition) = few_of_parent definition.parent

  pub few_hubs : (feed : ℕ) → length (feed_hubs mapping feed) ≤ most_references
  few_hubs feed = few_by (slice_get mapping.feeds feed)
