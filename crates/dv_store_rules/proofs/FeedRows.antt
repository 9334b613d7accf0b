-- The rows of a feed's tables after valid windows, whatever their kind: each is of an extract of the feed, so that its load
-- date, its source and its parent are known.
use Rattle.dv_store_rules.proofs.Vocabulary.{Contains, Contains-append_cases, Contains-append_right, Contains-cons_here, Contains-cons_there, Contains-nil, Extract, FeedDef, HasForm, Hub, IsNewestFirst, IsTotalOrder, Key, Known, Link, List, NRow, Option, Ordering, Parent, Place, Some, Window, []}
use Rattle.dv_store_rules.proofs.Vocabulary.{all_refs, ap, ascending-sorted_by, batch_made, batch_of, extract_of, filter_map, filter_map_member, fit_hubs, follows, has_parent, history, history-newest_first, inl, inr, is_delivered, is_digest, is_in_hub, is_in_parent, is_known, is_source}
use Rattle.dv_store_rules.proofs.Vocabulary.{is_window, length, load_order, map_member, newest_rows, one_key, parent_hubs, passes_at, refl, reverse, reverse_member, row_known, rows_at, slice_get, source, staged_at, staged_rows, subst, sym, true, whole, ℕ, ◌++◌, ◌∙◌, ◌∷◌, ◌≡◌}
use Rattle.dv_store_rules.proofs.{Around.Around, Around.HaveParents, Around.delivered_with, Around.is_wide, Around.sourced_from, BatchRows.IsOfBatch, BatchRows.event_in, BatchRows.follows_them, BatchRows.in_batch, BatchRows.later_event, Brought.hub_declared, Brought.link_declared}

module _ (known : Known) (windows : List Window) (around : Around known windows) (feed : ℕ) (extract : Extract) (has : Contains (history feed (reverse windows)) extract) where
  -- the window that the extract is of
  record HasWindow : Type 0 where
    window : Window
    there : Contains windows window
    is : extract_of feed window ≡ Some extract

  its_window : HasWindow
  its_window =
      let (window, there, is) = filter_map_member (extract_of feed) (reverse windows) extract has in
      record { window = window; there = (reverse_member windows window).0 there; is = is }

  -- the feed is one of the mapping
  pub record HasFeed : Type 0 where
    pub definition : FeedDef
    pub got : slice_get known.mapping.feeds feed ≡ Some definition

  -- since the extract's window is valid
  pub its_feed : HasFeed
  its_feed =
      let window_whole = passes_at (is_window known.mapping) windows its_window.window (whole known.mapping known.hashes windows around.valid) its_window.there in
      let (staged, there, number, valid, rows) = staged_at known.mapping its_window.window window_whole feed extract its_window.is in
      let (definition, got, are) = staged_rows known.mapping staged valid in
      record { definition = definition; got = ap (slice_get known.mapping.feeds) (sym number) ∙ got }

  -- the extract's rows have its form
  pub rows_formed : (row : NRow) → Contains extract.rows row → HasForm known.mapping its_feed.definition row
  rows_formed =
      let window_whole = passes_at (is_window known.mapping) windows its_window.window (whole known.mapping known.hashes windows around.valid) its_window.there in
      (rows_at known.mapping its_window.window window_whole feed extract its_window.is its_feed.definition its_feed.got).forms

  -- the load date is that of a window with the feed
  feed_loaded : (load : ℕ) → load ≡ extract.load → is_delivered known.heads feed load ≡ true
  feed_loaded = delivered_with known windows around its_window.window its_window.there feed extract its_window.is

  feed_sourced : (text : List ℕ) → text ≡ source known.mapping feed → is_source known.mapping text ≡ true
  feed_sourced = sourced_from known.mapping feed its_feed.definition its_feed.got

  -- the hash key of a list that the extract has is in the table of the feed's hub or link
  parent_there : HaveParents known windows → (refs : List Key) → Contains (all_refs extract.rows) refs → (digest : List ℕ) → digest ≡ known.hashes.hash refs → has_parent known feed digest ≡ true
  parent_there parents refs listed digest same =
      let (row, row_in, of_row) = map_member (λ (row : NRow). row.refs) extract.rows refs listed in
      let form = rows_formed row row_in in
      let brought = row_known known.mapping windows feed its_feed.definition its_feed.got extract has row row_in form in
      rw its_feed.got (subst (λ d. is_in_parent known.tables its_feed.definition.parent d ≡ true) (sym (same ∙ ap known.hashes.hash (sym of_row))) (by its_feed.definition.parent refl row brought form.fits))
    where
      by : (parent : Parent) → its_feed.definition.parent ≡ parent → (row : NRow) → is_known known.mapping parent (reverse windows) row.refs ≡ true → fit_hubs known.mapping (parent_hubs known.mapping parent) row.refs ≡ true
          → is_in_parent known.tables parent (known.hashes.hash row.refs) ≡ true
      by (Hub hub) is row brought fits =
          let (key, single, key_fits) = one_key known.mapping hub row.refs fits in
          let there = parents.hubs hub (hub_declared known.mapping around.mapping_valid feed its_feed.definition its_feed.got hub (subst (λ (p : Parent). Contains (parent_hubs known.mapping p) hub) (sym is) (Contains-cons_here hub []))) key
          (subst (λ keys. is_known known.mapping (Hub hub) (reverse windows) keys ≡ true) single brought) in
          subst (λ keys. is_in_hub known.tables hub (known.hashes.hash keys) ≡ true) (sym single) there
      by (Link link) is row brought fits = parents.links link (link_declared known.mapping around.mapping_valid feed its_feed.definition its_feed.got link is) row.refs brought

-- ---- rows of batches

-- a list of two extracts, one behind the other, is of one of them
of_extract : (newest : Extract) (older : List Extract) (refs : List Key) → Contains (all_refs (newest_rows older) ++ all_refs newest.rows) refs → (extract : Extract) × Contains (newest ∷ older) extract × Contains (all_refs extract.rows) refs
of_extract newest older refs has =
    elim (Contains-append_cases (all_refs (newest_rows older)) (all_refs newest.rows) refs has) [
      | inl was ↦ by older was
      | inr now ↦ (newest, Contains-cons_here newest older, now)
    ]
  where
    by : (all : List Extract) → Contains (all_refs (newest_rows all)) refs → (extract : Extract) × Contains (newest ∷ all) extract × Contains (all_refs extract.rows) refs
    by [] was = Contains-nil refs was
    by (last ∷ rest) was = (last, Contains-cons_there newest (last ∷ rest) last (Contains-cons_here last rest), was)

-- Own is what a row has of a thing of the extract besides
module _ {T R : Type 0} (known : Known) (feed : ℕ) (cmp : R → R → Ordering) (place : R → Place) (source_of : R → List ℕ) (refs_of : T → List Key) (Own : List Extract → Extract → T → R → Type 0) where
  -- what a row is made of
  pub record IsFeedMade (older : List Extract) (newest : Extract) (thing : T) (row : R) : Type 0 where
    pub parent : (place row).parent ≡ known.hashes.hash (refs_of thing)
    pub load : (place row).load ≡ newest.load
    pub source : source_of row ≡ source known.mapping feed
    pub own : Own older newest thing row

  module _ (total : IsTotalOrder cmp) (things : List Extract → Extract → List T) (row_of : List Extract → Extract → T → Option R)
      (made : (older : List Extract) (newest : Extract) (thing : T) (row : R) → row_of older newest thing ≡ Some row → IsFeedMade older newest thing row)
      (listed : (older : List Extract) (newest : Extract) (thing : T) → Contains (things older newest) thing → Contains (all_refs (newest_rows older) ++ all_refs newest.rows) (refs_of thing)) where
    -- an extract's batch
    abbrev pub feed_rows_of : List Extract → Extract → List R
    feed_rows_of older newest = batch_of cmp (row_of older newest) (things older newest)

    stamped : (older : List Extract) (newest : Extract) (row : R) → Contains (feed_rows_of older newest) row → (place row).load ≡ newest.load
    stamped older newest row has =
        let (thing, there, gives) = batch_made cmp (row_of older newest) (things older newest) row has in
        (made older newest thing row gives).load

    module _ (windows : List Window) (around : Around known windows) (parents : HaveParents known windows) (before : List R) (row : R) (is : IsOfBatch feed_rows_of (history feed (reverse windows)) before row) where
      -- what holds of the row, whatever its kind
      pub record FeedFacts : Type 0 where
        pub thing : T
        pub thing_in : Contains (things is.older is.newest) thing
        pub row_is : IsFeedMade is.older is.newest thing row
        pub extract_in : Contains (history feed (reverse windows)) is.newest
        pub order : IsNewestFirst (λ (extract : Extract). extract.load) (is.newest ∷ is.older)
        pub wide : is_digest known.width (place row).parent ≡ true
        pub loaded : is_delivered known.heads feed (place row).load ≡ true
        pub ordered : follows (λ row. (place row).load) cmp before row ≡ true
        pub sourced : is_source known.mapping (source_of row) ≡ true
        pub parented : has_parent known feed (place row).parent ≡ true

      -- it does where the rows are of a feed's table
      pub feed_facts : FeedFacts
      feed_facts =
          let all = history feed (reverse windows) in
          let (thing, there, gives) = batch_made cmp (row_of is.older is.newest) (things is.older is.newest) row (in_batch feed_rows_of all before row is) in
          let extract_in = event_in feed_rows_of all before row is in
          let order = history-newest_first feed windows (load_order known.mapping known.hashes windows around.valid) in
          let is_made = made is.older is.newest thing row gives in
          let (extract, has, listed_in) = of_extract is.newest is.older (refs_of thing) (listed is.older is.newest thing there) in
          let extract_has : Contains all extract = subst (λ l. Contains l extract) (sym is.events_are) (Contains-append_right is.newer (is.newest ∷ is.older) extract has) in
          record {
            thing = thing;
            thing_in = there;
            row_is = is_made;
            extract_in = extract_in;
            order = later_event feed_rows_of (λ (extract : Extract). extract.load) all before row is order;
            wide = is_wide known.width (place row).parent (ap length is_made.parent ∙ around.wide.hash (refs_of thing));
            loaded = feed_loaded known windows around feed is.newest extract_in (place row).load is_made.load;
            ordered = follows_them (λ (extract : Extract). extract.load) (λ row. (place row).load) cmp feed_rows_of stamped (λ older newest. ascending-sorted_by cmp total (filter_map (row_of older newest) (things older newest))) all order before row is;
            sourced = feed_sourced known windows around feed is.newest extract_in (source_of row) is_made.source;
            parented = parent_there known windows around feed extract extract_has parents (refs_of thing) listed_in (place row).parent is_made.parent;
          }
