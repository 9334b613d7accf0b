-- The contents of a hub's feeds: each stands in order, and what a key's cells are by them.
use Rattle.dv_mart.proofs.Vocabulary.{Bool, FeedDef, FeedRows, HubFeed, IsStrictlySortedBy, Key, List, Mapping, NRow, None, Option, Some, TableRows, [], any_content_read, any_content_read_by, ap, arith, ascending-sorted_by, cell_of, content_read, content_read_by, false, few_ascend, filter_map}
use Rattle.dv_mart.proofs.Vocabulary.{flat_map, flat_map-map, get_or, hub_cell, hub_feeds, hub_rows, if◌then◌else◌, key_cmp, keys_of, length, map, map-append, map-map, multi_content_read, multi_content_read_by, present_parents, refl, row_cmp, row_of, row_read, row_total, rows_of, rows_read}
use Rattle.dv_mart.proofs.Vocabulary.{slice_get, sorted_by, status_rows_in, sym, take, take_more, told, told_rows, true, ℕ, ◌++◌, ◌+◌, ◌<◌, ◌==◌, ◌∙◌, ◌∷◌, ◌≡◌}

-- ---- what is read from the tables stands in order

module _ (mapping : Mapping) (tables : List TableRows) (feed date : ℕ) where
  content_ascends : (definition : Option FeedDef) → IsStrictlySortedBy row_cmp (content_read_by mapping tables definition feed date)
  content_ascends None = few_ascend row_cmp [] (omega arith)
  content_ascends (Some definition) =
      ascending-sorted_by row_cmp row_total (filter_map (row_read mapping tables definition feed date) (present_parents (status_rows_in feed tables) date))

  multi_ascends : (definition : Option FeedDef) → IsStrictlySortedBy row_cmp (multi_content_read_by mapping tables definition feed date)
  multi_ascends None = few_ascend row_cmp [] (omega arith)
  multi_ascends (Some definition) =
      ascending-sorted_by row_cmp row_total (flat_map (rows_read mapping tables definition feed date) (present_parents (status_rows_in feed tables) date))

  either : (b : Bool) → IsStrictlySortedBy row_cmp (if b then content_read mapping tables feed date else multi_content_read mapping tables feed date)
  either true = content_ascends (slice_get mapping.feeds feed)
  either false = multi_ascends (slice_get mapping.feeds feed)

  by_definition : (definition : Option FeedDef) → IsStrictlySortedBy row_cmp (any_content_read_by mapping tables definition feed date)
  by_definition None = few_ascend row_cmp [] (omega arith)
  by_definition (Some definition) = either (length definition.sub == 0)

  pub read_ascends : IsStrictlySortedBy row_cmp (any_content_read mapping tables feed date)
  read_ascends = by_definition (slice_get mapping.feeds feed)

-- the contents of one feed more
pub contents_grow : (read : ℕ → List NRow) (feeds : List HubFeed) (i : ℕ) (item : HubFeed) (contents : List FeedRows) (one : FeedRows) → i < length feeds → item ≡ get_or feeds i item
    → map told_rows contents ≡ map (λ (feed : HubFeed). (told feed, read feed.place)) (take i feeds) → one.feed ≡ item → one.rows ≡ read item.place
    → map told_rows (contents ++ one ∷ []) ≡ map (λ (feed : HubFeed). (told feed, read feed.place)) (take (i + 1) feeds)
contents_grow read feeds i item contents one at is so_far feed_is rows_are =
    map-append told_rows contents (one ∷ [])
    ∙ (λ j. so_far j ++ (told (feed_is j), rows_are j) ∷ [])
    ∙ sym (ap (map (λ (feed : HubFeed). (told feed, read feed.place))) more ∙ map-append (λ (feed : HubFeed). (told feed, read feed.place)) (take i feeds) (item ∷ []))
  where
    more : take (i + 1) feeds ≡ take i feeds ++ item ∷ []
    more = take_more feeds i item at ∙ ap (λ x. take i feeds ++ x ∷ []) (sym is)

-- ---- the mart by the contents

module _ (mapping : Mapping) (read : ℕ → List NRow) (hub : ℕ) (feeds : List HubFeed) (contents : List FeedRows) (feeds_are : map told feeds ≡ hub_feeds mapping hub)
    (contents_are : map told_rows contents ≡ map (λ (feed : HubFeed). (told feed, read feed.place)) feeds) where
  cells_are : (key : Key) → map (cell_of key) contents ≡ map (hub_cell read key) (hub_feeds mapping hub)
  cells_are key =
      sym (map-map (λ (one : (ℕ × FeedDef) × List NRow). hub_cell (λ feed. one.1) key one.0) told_rows contents)
      ∙ ap (map (λ (one : (ℕ × FeedDef) × List NRow). hub_cell (λ feed. one.1) key one.0)) contents_are
      ∙ map-map (λ (one : (ℕ × FeedDef) × List NRow). hub_cell (λ feed. one.1) key one.0) (λ (feed : HubFeed). (told feed, read feed.place)) feeds
      ∙ sym (map-map (hub_cell read key) told feeds)
      ∙ ap (map (hub_cell read key)) feeds_are

  keys_are : keys_of contents ≡ flat_map (λ (feed : ℕ × FeedDef). flat_map (λ (row : NRow). row.refs) (read feed.0)) (hub_feeds mapping hub)
  keys_are =
      sym (flat_map-map (λ (one : (ℕ × FeedDef) × List NRow). flat_map (λ (row : NRow). row.refs) one.1) told_rows contents)
      ∙ ap (flat_map (λ (one : (ℕ × FeedDef) × List NRow). flat_map (λ (row : NRow). row.refs) one.1)) contents_are
      ∙ flat_map-map (λ (one : (ℕ × FeedDef) × List NRow). flat_map (λ (row : NRow). row.refs) one.1) (λ (feed : HubFeed). (told feed, read feed.place)) feeds
      ∙ sym (flat_map-map (λ (feed : ℕ × FeedDef). flat_map (λ (row : NRow). row.refs) (read feed.0)) told feeds)
      ∙ ap (flat_map (λ (feed : ℕ × FeedDef). flat_map (λ (row : NRow). row.refs) (read feed.0))) feeds_are

  rows_are : (keys : List Key) → map (row_of contents) keys ≡ map (λ key. record { key = key; cells = map (hub_cell read key) (hub_feeds mapping hub) }) keys
  rows_are [] = refl
  rows_are (key ∷ keys) =
      let cells = cells_are key in
      let rest = rows_are keys in
      λ i. record { key = key; cells = cells i } ∷ rest i

  pub mart_is : rows_of contents ≡ hub_rows mapping read hub
  mart_is =
      rows_are (sorted_by key_cmp (keys_of contents))
      ∙ ap (λ keys. map (λ key. record { key = key; cells = map (hub_cell read key) (hub_feeds mapping hub) }) (sorted_by key_cmp keys)) keys_are
