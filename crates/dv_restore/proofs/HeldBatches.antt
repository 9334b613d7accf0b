-- What a window adds to tables of which some have its batch already: nothing to these, and to the others their batch.
use Rattle.dv_restore.proofs.Vocabulary.{Backwards, Bool, Contains, Contains-append_cases, Contains-append_right, Contains-cons_here, Contains-cons_there, Effects, Extract, FeedDef, Hashes, Hub, Hubs, Link, Links, List, Mapping, Multis, NRow, None, OfFeed, Option, Parent, Rows, Sats, Some}
use Rattle.dv_restore.proofs.Vocabulary.{Statuses, TableId, TellLists, Window, [], added_to, all_lacking, all_refs, ap, append-nil, appended, appended-history, are_windows_valid, arith, backwards, collision, drop, effect_batch, effect_delta, effect_is, eq-eqb, extract_added, extract_of, false}
use Rattle.dv_restore.proofs.Vocabulary.{feed_batch, feed_tables, free_at, grown, history, hub_held, hub_names, if◌then◌else◌, inl, inr, is_valid, is_window, last_load, late_after, link_held, list_any, map, map_member, multi_batch, multi_delta, multi_is, multi_stamped, none_like, of_feeds}
use Rattle.dv_restore.proofs.Vocabulary.{parents, parents_first, parts_at, refl, rest_in, reverse, reverse-append, sat_batch, sat_delta, sat_is, sealed_told, slice_get, some_passes_at, source, status_batch, status_delta, status_is, subst, suc, table_added, table_batch, table_entry, table_of}
use Rattle.dv_restore.proofs.Vocabulary.{tables, take, true, vault, window_batches, with_newest, zero, ℕ, ◌++◌, ◌+◌, ◌==◌, ◌∙◌, ◌∷◌, ◌≡◌}
use Rattle.dv_restore.proofs.LoadedRows.{effect_stamped, sat_stamped, status_stamped}
use Rattle.dv_catalog.specs.declared.tables.TableId.TheVariants as ids

-- rows behind which a window has rows of its load date
module _ {R : Type 0} (load_of : R → ℕ) (delta : List R → ℕ → List NRow → List R) (stops : (rows : List R) (load : ℕ) (staged : List NRow) → list_any (λ row. load_of row == load) rows ≡ true → delta rows load staged ≡ []) where
  nothing_more : (older batch : List R) (load : ℕ) (staged : List NRow) → ((row : R) → Contains batch row → load_of row ≡ load) → delta older load staged ≡ batch → delta (older ++ batch) load staged ≡ []
  nothing_more older [] load staged stamped is = ap (λ rows. delta rows load staged) (append-nil older) ∙ is
  nothing_more older (row ∷ batch) load staged stamped is =
      stops (older ++ row ∷ batch) load staged
      (some_passes_at (λ row. load_of row == load) (older ++ row ∷ batch) row (Contains-append_right older (row ∷ batch) row (Contains-cons_here row batch)) (eq-eqb (load_of row) load (stamped row (Contains-cons_here row batch))))

  module _ (kind : List R → Rows) (feed : ℕ) (batch : List Extract → Extract → List R) (stamped : (older : List Extract) (newest : Extract) (row : R) → Contains (batch older newest) row → load_of row ≡ newest.load)
      (older : List Window) (window : Window) (history_grown : (newest : Extract) → extract_of feed window ≡ Some newest → history feed (window ∷ older) ≡ newest ∷ history feed older)
      (is : (newest : Extract) → extract_of feed window ≡ Some newest → delta (appended batch (history feed older)) newest.load newest.rows ≡ batch (history feed older) newest) where
    feed_held : (found : Option Extract) → extract_of feed window ≡ found → extract_added (λ load staged. kind (delta (appended (feed_batch feed batch) (window ∷ older)) load staged)) (kind []) found ≡ kind []
    feed_held None e = refl
    feed_held (Some newest) e =
        ap (λ rows. kind (delta rows newest.load newest.rows)) (appended-history feed batch (window ∷ older) ∙ ap (appended batch) (history_grown newest e))
        ∙ ap kind (nothing_more (appended batch (history feed older)) (batch (history feed older) newest) newest.load newest.rows (stamped (history feed older) newest) (is newest e))

stops_with : {R : Type 0} (there : Bool) (rows : List R) → there ≡ true → (if there then [] else rows) ≡ []
stops_with true rows e = refl
stops_with false rows e = cc

module _ (mapping : Mapping) (hashes : Hashes) (sealed : List Window) (window : Window) (valid : is_valid mapping ≡ true) (windows_valid : are_windows_valid mapping hashes sealed ≡ true)
    (with_window : are_windows_valid mapping hashes (sealed ++ window ∷ []) ≡ true) (whole : is_window mapping window ≡ true) (late : late_after (last_load sealed) window.load ≡ None) (free : collision mapping hashes (sealed ++ window ∷ []) ≡ None) where
  abbrev older : List Window
  older = reverse sealed

  abbrev newer : Backwards
  newer = with_newest window (backwards sealed)

  -- what is added to a table that has the batch
  abbrev held_at : TableId → Rows
  held_at id = added_to mapping hashes window (table_entry mapping hashes newer id)

  abbrev IsHeldAt : TableId → Type 0
  IsHeldAt id = held_at id ≡ none_like (table_batch mapping hashes id (backwards sealed) window)

  -- the names after the window tell its lists, and those before
  pub told_after : TellLists mapping hashes (hub_names mapping (vault mapping hashes (sealed ++ window ∷ []))) (window ∷ older)
  told_after = subst (TellLists mapping hashes (hub_names mapping (vault mapping hashes (sealed ++ window ∷ [])))) (reverse-append sealed (window ∷ [])) (sealed_told mapping hashes (sealed ++ window ∷ []) window valid with_window)

  parent_held : (parent : Parent) → Contains (parents mapping) parent → IsHeldAt (table_of parent)
  parent_held (Hub hub) has = ap Hubs (hub_held mapping hashes hub older window (free_at mapping hashes sealed window valid windows_valid whole late free (Hub hub) has) window.load)
  parent_held (Link link) has =
      ap Links (link_held mapping hashes link (hub_names mapping (vault mapping hashes (sealed ++ window ∷ []))) older window told_after (free_at mapping hashes sealed window valid windows_valid whole late free (Link link) has) window.load)

  module _ (feed : ℕ) (definition : FeedDef) (at : slice_get mapping.feeds feed ≡ Some definition) where
    abbrev from : List ℕ
    from = source mapping feed

    own_grown : (newest : Extract) → extract_of feed window ≡ Some newest → history feed (window ∷ older) ≡ newest ∷ history feed older
    own_grown = grown mapping hashes sealed window valid windows_valid whole late free feed definition at

    sat_held : definition.sub ≡ [] → IsHeldAt (ids.Sat feed)
    sat_held none =
        feed_held (λ row. row.load) (λ rows load staged. sat_delta hashes from rows load staged) (λ rows load staged there. stops_with _ _ there) Sats feed (sat_batch hashes from) (sat_stamped hashes from) older window own_grown
        (sat_is mapping hashes sealed window valid windows_valid whole late free feed definition at none) (extract_of feed window) refl

    multi_held : IsHeldAt (ids.Multi feed)
    multi_held =
        feed_held (λ row. row.load) (λ rows load staged. multi_delta hashes from rows load staged) (λ rows load staged there. stops_with _ _ there) Multis feed (multi_batch hashes from) (multi_stamped hashes from) older window own_grown
        (multi_is mapping hashes sealed window valid windows_valid whole late free feed definition at) (extract_of feed window) refl

    status_held : IsHeldAt (ids.Status feed)
    status_held =
        feed_held (λ row. row.load) (λ rows load staged. status_delta hashes from rows load (all_refs staged)) (λ rows load staged there. stops_with _ _ there) Statuses feed (status_batch hashes from) (status_stamped hashes from) older window own_grown
        (status_is mapping hashes sealed window valid windows_valid whole late free feed definition at) (extract_of feed window) refl

    effect_held : IsHeldAt (ids.Effect feed)
    effect_held =
        feed_held (λ row. row.load) (λ rows load staged. effect_delta hashes from rows load (all_refs staged)) (λ rows load staged there. stops_with _ _ there) Effects feed (effect_batch hashes from) (effect_stamped hashes from) older window own_grown
        (effect_is mapping hashes sealed window valid windows_valid whole late free feed definition at) (extract_of feed window) refl

  feeds_held : (i feed : ℕ) (definition : FeedDef) → feed ≡ 0 + i → slice_get mapping.feeds i ≡ Some definition → OfFeed IsHeldAt feed definition
  feeds_held i feed definition e got =
      let same : feed ≡ i = omega (arith, e) in
      let at : slice_get mapping.feeds feed ≡ Some definition = ap (slice_get mapping.feeds) same ∙ got in
      record { sat = λ none. sat_held feed definition at none; multi = multi_held feed definition at; status = status_held feed definition at; effect = effect_held feed definition at }

  table_held : (id : TableId) → Contains (tables mapping) id → IsHeldAt id
  table_held id has =
      elim (Contains-append_cases (map table_of (parents mapping)) (feed_tables 0 mapping.feeds) id (subst (λ (all : List TableId). Contains all id) (parents_first mapping) has)) [
        | inl parent ↦
            let (of, member, is) = map_member table_of (parents mapping) id parent in
            subst IsHeldAt is (parent_held of member)
        | inr feed ↦ of_feeds IsHeldAt 0 mapping.feeds feeds_held id feed
      ]

  -- ---- tables of which the first k have their batches

  abbrev batch_at : TableId → Rows
  batch_at id = table_batch mapping hashes id (backwards sealed) window

  abbrev IsAddedAt : TableId → Type 0
  IsAddedAt id = added_to mapping hashes window (table_entry mapping hashes (backwards sealed) id) ≡ batch_at id

  all_added : (some : List TableId) → ((id : TableId) → Contains some id → IsAddedAt id) → map (added_to mapping hashes window) (map (table_entry mapping hashes (backwards sealed)) some) ≡ map batch_at some
  all_added [] each = refl
  all_added (id ∷ some) each = λ i. each id (Contains-cons_here id some) i ∷ all_added some (λ other has. each other (Contains-cons_there id some other has)) i

  lacking : (batches : List Rows) → batches ≡ rest_in (parts_at 0 batches)
  lacking [] = refl
  lacking (rows ∷ batches) = ap (λ (rest : List Rows). rows ∷ rest) (lacking batches ∙ ap rest_in (all_lacking batches))

  mixed : (k : ℕ) (some : List TableId) → ((id : TableId) → Contains some id → IsAddedAt id) → ((id : TableId) → Contains some id → IsHeldAt id)
      → map (added_to mapping hashes window) (map (table_entry mapping hashes newer) (take k some) ++ map (table_entry mapping hashes (backwards sealed)) (drop k some)) ≡ rest_in (parts_at k (map batch_at some))
  mixed zero [] each held = refl
  mixed zero (id ∷ some) each held = all_added (id ∷ some) each ∙ lacking (map batch_at (id ∷ some))
  mixed (suc k) [] each held = refl
  mixed (suc k) (id ∷ some) each held =
      λ i. held id (Contains-cons_here id some) i ∷ mixed k some (λ other has. each other (Contains-cons_there id some other has)) (λ other has. held other (Contains-cons_there id some other has)) i

  pub partly_added : (k : ℕ)
      → map (added_to mapping hashes window) (map (table_entry mapping hashes newer) (take k (tables mapping)) ++ map (table_entry mapping hashes (backwards sealed)) (drop k (tables mapping)))
      ≡ rest_in (parts_at k (window_batches mapping hashes sealed window))
  partly_added k = mixed k (tables mapping) (table_added mapping hashes sealed window valid windows_valid whole late free) table_held
