-- What a window adds to each table of a vault, told from the rows alone, is its batch after the sealed windows.
use Rattle.dv_vault.proofs.Vocabulary.{All-contains, AreApart, AreNewestFirst, Contains, Contains-append_cases, Contains-append_left, Contains-append_right, Contains-map, Contains-range, Effects, Extract, FeedDef, HasSealed, Hashes, Hub, Hubs, IsApart, IsPlain, IsTold, Link, Links, List, Mapping}
use Rattle.dv_vault.proofs.Vocabulary.{Multis, NRow, None, Option, Parent, RawVault, Rows, Sats, Some, Statuses, TableId, Window, [], added_to, all_added, all_refs, and_from, ap, appended, appended-history, are_windows_valid, arith, ascends, backwards, batch_at, collision, collision_in}
use Rattle.dv_vault.proofs.Vocabulary.{cons_option, delta, effect_batch, effect_delta, effect_delta_is, extract_added, extract_of, feed_batch, feed_tables, filter_map_same, history, hub_delta_is, inl, inr, is_declared, is_valid, is_window, last_load, late_after, length, link_delta_is, list_all}
use Rattle.dv_vault.proofs.Vocabulary.{lists_of, ltb-true, map, map-append, map-map, map_filter, map_member, multi_batch, multi_delta, multi_delta_is, none_collide, parents, range_with_len, refl, reverse, sat_batch, sat_delta, sat_delta_is, slice_get, source, status_batch, status_delta}
use Rattle.dv_vault.proofs.Vocabulary.{status_delta_is, subst, sym, table_batch, table_entry, table_of, tables, true, valid_feed, vault, ℕ, ◌++◌, ◌+◌, ◌∙◌, ◌∷◌, ◌≡◌}
use Rattle.dv_vault.proofs.{Afterwards.loads_ascend, FeedLists.feed_lists_apart, FeedLists.feed_newest_first, FeedLists.feed_plain, FeedLists.feed_told, FeedLists.reversed_whole, FeedTables.OfFeed, FeedTables.of_feeds, VaultCollisions.apart_is_free, VaultCollisions.parents_first}
use Rattle.dv_vault.proofs.{VaultCollisions.sealed_parts, VaultCollisions.sealed_told, VaultCollisions.turned_back, VaultCollisions.unturned}
use Rattle.dv_catalog.specs.declared.tables.TableId.TheVariants as ids

module _ (mapping : Mapping) (hashes : Hashes) (sealed : List Window) (window : Window) (valid : is_valid mapping ≡ true) (windows_valid : are_windows_valid mapping hashes sealed ≡ true) (whole : is_window mapping window ≡ true)
    (late : late_after (last_load sealed) window.load ≡ None) (free : collision mapping hashes (sealed ++ window ∷ []) ≡ None) where
  -- the sealed windows, the newest first
  abbrev older : List Window
  older = reverse sealed

  -- what the rows of a table tell, and its batch
  abbrev added_at : TableId → Rows
  added_at id = added_to mapping hashes window (table_entry mapping hashes (backwards sealed) id)

  abbrev batch_of_table : TableId → Rows
  batch_of_table id = table_batch mapping hashes id (backwards sealed) window

  -- ---- windows

  all_whole : list_all (is_window mapping) (window ∷ older) ≡ true
  all_whole = and_from _ _ whole (reversed_whole (is_window mapping) sealed (sealed_parts mapping hashes sealed windows_valid).whole)

  all_ascend : ascends (map (λ w. w.load) (reverse (window ∷ older))) ≡ true
  all_ascend =
      ap (λ (windows : List Window). ascends (map (λ w. w.load) windows)) (turned_back sealed window)
      ∙ ap ascends (map-append (λ (w : Window). w.load) sealed (window ∷ []))
      ∙ loads_ascend (map (λ w. w.load) sealed) window.load (sealed_parts mapping hashes sealed windows_valid).ordered late

  pub free_at : (parent : Parent) → Contains (parents mapping) parent → collision_in mapping hashes (reverse (window ∷ older)) parent ≡ None
  free_at parent has =
      ap (λ windows. collision_in mapping hashes windows parent) (turned_back sealed window)
      ∙ All-contains (λ (parent : Parent). collision_in mapping hashes (sealed ++ window ∷ []) parent ≡ None) (parents mapping) parent ((none_collide mapping hashes (sealed ++ window ∷ [])).0 free) has

  pub free_before : (parent : Parent) → Contains (parents mapping) parent → collision_in mapping hashes (reverse older) parent ≡ None
  free_before parent has =
      unturned mapping hashes sealed window valid windows_valid parent
      (All-contains (λ (parent : Parent). collision_in mapping hashes sealed parent ≡ None) (parents mapping) parent (sealed_parts mapping hashes sealed windows_valid).free has)

  -- ---- hubs and links

  parent_added : (parent : Parent) → Contains (parents mapping) parent → added_at (table_of parent) ≡ batch_of_table (table_of parent)
  parent_added (Hub hub) has = ap Hubs (hub_delta_is mapping hashes hub older window (free_before (Hub hub) has) (free_at (Hub hub) has))
  parent_added (Link link) has =
      ap Links (link_delta_is mapping hashes link _ older window (sealed_told mapping hashes sealed window valid windows_valid) (free_before (Link link) has) (free_at (Link link) has))

  -- ---- feeds

  declared_parent : (parent : Parent) → is_declared mapping parent ≡ true → Contains (parents mapping) parent
  declared_parent (Hub hub) e =
      Contains-append_left (map (λ n. Hub n) (range_with_len 0 (length mapping.hubs))) (map (λ n. Link n) (range_with_len 0 (length mapping.links))) (Hub hub)
      (Contains-map (λ n. Hub n) (range_with_len 0 (length mapping.hubs)) hub (Contains-range (length mapping.hubs) hub (ltb-true hub (length mapping.hubs) e)))
  declared_parent (Link link) e =
      Contains-append_right (map (λ n. Hub n) (range_with_len 0 (length mapping.hubs))) (map (λ n. Link n) (range_with_len 0 (length mapping.links))) (Link link)
      (Contains-map (λ n. Link n) (range_with_len 0 (length mapping.links)) link (Contains-range (length mapping.links) link (ltb-true link (length mapping.links) e)))

  -- what a feed's table gets, by the table's rows, is the batch of its extract, by the older extracts
  next_batch : {R : Type 0} (kind : List R → Rows) (feed : ℕ) (batch : List Extract → Extract → List R) (delta : List R → ℕ → List NRow → List R)
      → ((newest : Extract) → extract_of feed window ≡ Some newest → delta (appended batch (history feed older)) newest.load newest.rows ≡ batch (history feed older) newest)
      → (found : Option Extract) → extract_of feed window ≡ found
      → extract_added (λ load staged. kind (delta (appended (feed_batch feed batch) older) load staged)) (kind []) found ≡ kind (batch_at batch (history feed older) found)
  next_batch kind feed batch delta is None e = refl
  next_batch kind feed batch delta is (Some newest) e = ap (λ rows. kind (delta rows newest.load newest.rows)) (appended-history feed batch older) ∙ ap kind (is newest e)

  module _ (feed : ℕ) (definition : FeedDef) (at : slice_get mapping.feeds feed ≡ Some definition) where
    pub grown : (newest : Extract) → extract_of feed window ≡ Some newest → history feed (window ∷ older) ≡ newest ∷ history feed older
    grown newest e = ap (λ (found : Option Extract). cons_option found (history feed older)) e

    lists_apart : IsApart hashes (lists_of (history feed (window ∷ older)))
    lists_apart =
        feed_lists_apart mapping hashes feed definition at (window ∷ older) all_whole
        (free_at definition.parent (declared_parent definition.parent (valid_feed mapping valid feed definition at).declared))

    pub order_with : (newest : Extract) → extract_of feed window ≡ Some newest → AreNewestFirst (newest ∷ history feed older)
    order_with newest e = subst AreNewestFirst (grown newest e) (feed_newest_first feed (window ∷ older) all_ascend)

    pub apart_with : (newest : Extract) → extract_of feed window ≡ Some newest → IsApart hashes (lists_of (newest ∷ history feed older))
    apart_with newest e = subst (λ (extracts : List Extract). IsApart hashes (lists_of extracts)) (grown newest e) lists_apart

    pub plain_with : definition.sub ≡ [] → (newest : Extract) → extract_of feed window ≡ Some newest → (extract : Extract) → Contains (newest ∷ history feed older) extract → IsPlain extract.rows
    plain_with none newest e extract has =
        feed_plain mapping hashes feed definition at (window ∷ older) all_whole none extract (subst (λ (extracts : List Extract). Contains extracts extract) (sym (grown newest e)) has)

    -- the delta of a satellite is its batch
    pub sat_is : definition.sub ≡ [] → (newest : Extract) → extract_of feed window ≡ Some newest
        → sat_delta hashes (source mapping feed) (appended (sat_batch hashes (source mapping feed)) (history feed older)) newest.load newest.rows ≡ sat_batch hashes (source mapping feed) (history feed older) newest
    sat_is none newest e = sat_delta_is hashes (source mapping feed) (history feed older) newest (order_with newest e) (apart_with newest e) (plain_with none newest e)

    sat_added : definition.sub ≡ [] → added_at (ids.Sat feed) ≡ batch_of_table (ids.Sat feed)
    sat_added none =
        next_batch Sats feed (sat_batch hashes (source mapping feed)) (λ rows load staged. sat_delta hashes (source mapping feed) rows load staged)
        (sat_is none) (extract_of feed window) refl

    pub told_with : (newest : Extract) → extract_of feed window ≡ Some newest → (extract : Extract) → Contains (newest ∷ history feed older) extract → IsTold extract.rows
    told_with newest e extract has =
        feed_told mapping hashes feed definition at (window ∷ older) all_whole extract (subst (λ (extracts : List Extract). Contains extracts extract) (sym (grown newest e)) has)

    pub multi_is : (newest : Extract) → extract_of feed window ≡ Some newest
        → multi_delta hashes (source mapping feed) (appended (multi_batch hashes (source mapping feed)) (history feed older)) newest.load newest.rows ≡ multi_batch hashes (source mapping feed) (history feed older) newest
    multi_is newest e = multi_delta_is hashes (source mapping feed) (history feed older) newest (order_with newest e) (apart_with newest e) (told_with newest e)

    multi_added : added_at (ids.Multi feed) ≡ batch_of_table (ids.Multi feed)
    multi_added =
        next_batch Multis feed (multi_batch hashes (source mapping feed)) (λ rows load staged. multi_delta hashes (source mapping feed) rows load staged)
        multi_is (extract_of feed window) refl

    pub status_is : (newest : Extract) → extract_of feed window ≡ Some newest
        → status_delta hashes (source mapping feed) (appended (status_batch hashes (source mapping feed)) (history feed older)) newest.load (all_refs newest.rows) ≡ status_batch hashes (source mapping feed) (history feed older) newest
    status_is newest e = status_delta_is hashes (source mapping feed) (history feed older) newest (order_with newest e) (apart_with newest e)

    status_added : added_at (ids.Status feed) ≡ batch_of_table (ids.Status feed)
    status_added =
        next_batch Statuses feed (status_batch hashes (source mapping feed)) (λ rows load staged. status_delta hashes (source mapping feed) rows load (all_refs staged))
        status_is (extract_of feed window) refl

    pub effect_is : (newest : Extract) → extract_of feed window ≡ Some newest
        → effect_delta hashes (source mapping feed) (appended (effect_batch hashes (source mapping feed)) (history feed older)) newest.load (all_refs newest.rows) ≡ effect_batch hashes (source mapping feed) (history feed older) newest
    effect_is newest e = effect_delta_is hashes (source mapping feed) (history feed older) newest (order_with newest e) (apart_with newest e)

    effect_added : added_at (ids.Effect feed) ≡ batch_of_table (ids.Effect feed)
    effect_added =
        next_batch Effects feed (effect_batch hashes (source mapping feed)) (λ rows load staged. effect_delta hashes (source mapping feed) rows load (all_refs staged))
        effect_is (extract_of feed window) refl

  abbrev IsAdded : TableId → Type 0
  IsAdded id = added_at id ≡ batch_of_table id

  feed_added : (i feed : ℕ) (definition : FeedDef) → feed ≡ 0 + i → slice_get mapping.feeds i ≡ Some definition → OfFeed IsAdded feed definition
  feed_added i feed definition e got =
      let same : feed ≡ i = omega (arith, e) in
      let at : slice_get mapping.feeds feed ≡ Some definition = ap (slice_get mapping.feeds) same ∙ got in
      record {
        sat = λ none. sat_added feed definition at none;
        multi = multi_added feed definition at;
        status = status_added feed definition at;
        effect = effect_added feed definition at;
      }

  -- ---- all tables

  pub table_added : (id : TableId) → Contains (tables mapping) id → added_at id ≡ batch_of_table id
  table_added id has =
      elim (Contains-append_cases (map table_of (parents mapping)) (feed_tables 0 mapping.feeds) id (subst (λ (all : List TableId). Contains all id) (parents_first mapping) has)) [
        | inl parent ↦
            let (of, member, is) = map_member table_of (parents mapping) id parent in
            subst (λ (id : TableId). added_at id ≡ batch_of_table id) is (parent_added of member)
        | inr feed ↦ of_feeds IsAdded 0 mapping.feeds feed_added id feed
      ]

  pub vault_added : map (added_to mapping hashes window) (vault mapping hashes sealed) ≡ map (λ table. table_batch mapping hashes table (backwards sealed) window) (tables mapping)
  vault_added =
      map-map (added_to mapping hashes window) (table_entry mapping hashes (backwards sealed)) (tables mapping)
      ∙ map_filter added_at (tables mapping)
      ∙ filter_map_same (λ id. Some (added_at id)) (λ id. Some (batch_of_table id)) (tables mapping) (λ id has. ap Some (table_added id has))
      ∙ sym (map_filter batch_of_table (tables mapping))

-- ---- a vault

-- where no table has a clash, what the window adds is its batches
pub added_is_batch : (hashes : Hashes) (sealed : List Window) (raw : RawVault) → HasSealed hashes sealed raw → is_valid raw.mapping ≡ true
    → (window : Window) → is_window raw.mapping window ≡ true → late_after (last_load sealed) window.load ≡ None
    → AreApart hashes raw window
    → all_added hashes raw window ≡ map (λ table. table_batch raw.mapping hashes table (backwards sealed) window) (tables raw.mapping)
added_is_batch hashes sealed raw has valid window whole late apart =
    ap (map (added_to raw.mapping hashes window)) has.tables_are
    ∙ vault_added raw.mapping hashes sealed window valid has.valid whole late (apart_is_free hashes sealed raw has valid window apart)
