-- A window has at most five items a row: a link has at most four hubs.
use Rattle.dv_window_keys.proofs.Vocabulary.{FeedDef, Hub, Key, Link, LinkDef, List, Mapping, NRow, None, Option, Parent, Some, Staged, Window, [], arith, feed_hubs, flat_map, hub_items, hubs_by, is_valid, is_window, items_of, length, length-append, link_by, link_hubs, link_items, parent_hubs}
use Rattle.dv_window_keys.proofs.Vocabulary.{refl, row_items, slice_get, sum_by, sum_by-cons, true, valid_link, window_items, window_parts, ℕ, ◌*◌, ◌∷◌, ◌≡◌, ◌≤◌}

hub_count : (feed : ℕ) (hubs : List ℕ) (refs : List Key) → length (hub_items feed hubs refs) ≤ length hubs
hub_count feed [] refs = omega arith
hub_count feed (hub ∷ hubs) [] = omega arith
hub_count feed (hub ∷ hubs) (key ∷ refs) = let rest = hub_count feed hubs refs in omega (arith, rest)

link_count : (feed : ℕ) (link : Option ℕ) (refs : List Key) → length (link_items feed link refs) ≤ 1
link_count feed None refs = omega arith
link_count feed (Some link) refs = omega arith

module _ (mapping : Mapping) (valid : is_valid mapping ≡ true) where
  few_hubs : (link : ℕ) → length (link_hubs (slice_get mapping.links link)) ≤ 4
  few_hubs link = by (slice_get mapping.links link) refl
    where
      by : (found : Option LinkDef) → slice_get mapping.links link ≡ found → length (link_hubs found) ≤ 4
      by None at = omega arith
      by (Some definition) at = let few = (valid_link mapping valid link definition at).few_hubs in omega (arith, few)

  parent_few : (parent : Parent) → length (parent_hubs mapping parent) ≤ 4
  parent_few (Hub hub) = omega arith
  parent_few (Link link) = few_hubs link

  feed_few : (definition : Option FeedDef) → length (hubs_by mapping definition) ≤ 4
  feed_few None = omega arith
  feed_few (Some feed) = parent_few feed.parent

  row_count : (feed : ℕ) (row : NRow) → length (row_items mapping feed row) ≤ 5
  row_count feed row =
      let own = link_by (slice_get mapping.feeds feed) in
      let both = length-append (hub_items feed (feed_hubs mapping feed) row.refs) (link_items feed own row.refs) in
      let hubs = hub_count feed (feed_hubs mapping feed) row.refs in
      let few = feed_few (slice_get mapping.feeds feed) in
      let link = link_count feed own row.refs in
      omega (arith, both, hubs, few, link)

  rows_count : (feed : ℕ) (rows : List NRow) → length (flat_map (row_items mapping feed) rows) ≤ 5 * length rows
  rows_count feed [] = omega arith
  rows_count feed (row ∷ rows) =
      let both = length-append (row_items mapping feed row) (flat_map (row_items mapping feed) rows) in
      let here = row_count feed row in
      let rest = rows_count feed rows in
      omega (arith, both, here, rest)

  all_count : (extracts : List Staged) → length (flat_map (items_of mapping) extracts) ≤ 5 * sum_by (λ staged. length staged.rows) extracts
  all_count [] = omega arith
  all_count (staged ∷ extracts) =
      let both = length-append (items_of mapping staged) (flat_map (items_of mapping) extracts) in
      let here = rows_count staged.feed staged.rows in
      let rest = all_count extracts in
      let sum = sum_by-cons (λ (staged : Staged). length staged.rows) staged extracts in
      omega (arith, both, here, rest, sum)

  pub few_items : (window : Window) → is_window mapping window ≡ true → length (window_items mapping window) ≤ 2000000
  few_items window whole =
      let all = all_count window.extracts in
      let few = (window_parts mapping window whole).few in
      omega (arith, all, few)
