-- The rows of raw tables by their load dates: those of a window's batch have the window's, and those of older windows an
-- earlier one.
use Rattle.dv_restore.proofs.Vocabulary.{AllBefore, Backwards, Bool, Contains, Contains-nil, Delivery, EffectRow, Effects, Extract, Hashes, Hub, HubRow, Hubs, Link, LinkRow, Links, List, Mapping, MultiRow, Multis, None, Option, Ordering, SatRow, Sats, Some, StatusRow, Statuses, TableId, Window}
use Rattle.dv_restore.proofs.Vocabulary.{[], all_refs, ap, append-nil, appended, arith, batch_at, batch_stamped, code_of, deliveries, delivers, earlier_rows, effect_batch, effect_cmp, effect_row, eq-eqb, extract-load, extract_of, false, feed_batch, filter, filter-all, filter-append, filter-none}
use Rattle.dv_restore.proofs.Vocabulary.{history, hub_batch, hub_cmp, if_not, if_so, is_changed, is_known, link_batch, link_cmp, made_of, multi_batch, multi_cmp, multi_stamped, nat_tests, newest_rows, not, not_from_false, only_key, refl, run_begin, sat_batch, sat_cmp, sat_row, sealed_rows}
use Rattle.dv_restore.proofs.Vocabulary.{source, span_between, status_batch, status_cmp, status_row, sym, table_after, true, with_newest, ℕ, ◌++◌, ◌<◌, ◌==◌, ◌∙◌, ◌∷◌, ◌≡◌}
use Rattle.dv_records.specs.Hubs.{hub_row, link_row}
use Rattle.dv_catalog.specs.declared.tables.TableId.TheVariants as ids

-- ---- rows of batches

earlier_differs : (a b : ℕ) → a < b → (a == b) ≡ false
earlier_differs a b less = grind (arith, nat_tests, less)

module _ {R : Type 0} (load : R → ℕ) (cmp : R → R → Ordering) (batch : List Window → Window → List R)
    (stamped : (older : List Window) (newest : Window) (row : R) → Contains (batch older newest) row → load row ≡ newest.load) (older : List Window) (newest : Window) (early : AllBefore (λ (window : Window). window.load) newest.load older) where
  abbrev is_other : R → Bool
  is_other row = not (load row == newest.load)

  -- rows of older windows have another load date than a window
  all_others : filter is_other (appended batch older) ≡ appended batch older
  all_others =
      filter-all is_other (appended batch older) (λ row has.
      not_from_false (load row == newest.load) (earlier_differs (load row) newest.load (earlier_rows (λ (window : Window). window.load) load cmp batch stamped newest.load older early row has)))

  none_new : filter is_other (batch older newest) ≡ []
  none_new = filter-none is_other (batch older newest) (λ row has. ap not (eq-eqb (load row) newest.load (stamped older newest row has)))

  -- so without those of its load date the older windows' are left, whether its batch is there or not
  others_left : (filter is_other (appended batch older) ≡ appended batch older) × (filter is_other (appended batch (newest ∷ older)) ≡ appended batch older)
  others_left = (
    all_others,
    filter-append is_other (appended batch older) (batch older newest) ∙ (λ i. all_others i ++ none_new i) ∙ append-nil (appended batch older),
  )

-- ---- hubs and links

module _ (mapping : Mapping) (hashes : Hashes) where
  hub_stamped : (hub : ℕ) (older : List Window) (newest : Window) (row : HubRow) → Contains (hub_batch mapping hashes hub older newest) row → row.load ≡ newest.load
  hub_stamped hub older newest =
      batch_stamped (λ (row : HubRow). row.load) hub_cmp (hub_row mapping hashes hub older newest) newest.load
      (λ item row gives. by item row (is_known mapping (Hub hub) older item.refs) refl gives) (deliveries mapping (Hub hub) newest)
    where
      by : (item : Delivery) (row : HubRow) (known : Bool) → is_known mapping (Hub hub) older item.refs ≡ known → hub_row mapping hashes hub older newest item ≡ Some row → row.load ≡ newest.load
      by item row true e gives = let no : None ≡ Some row = rw e at gives in cc
      by item row false e gives = let (key, only, made) = made_of _ (only_key item.refs) row (rw e at gives) in ap (λ (row : HubRow). row.load) (sym made)

  link_stamped : (link : ℕ) (older : List Window) (newest : Window) (row : LinkRow) → Contains (link_batch mapping hashes link older newest) row → row.load ≡ newest.load
  link_stamped link older newest =
      batch_stamped (λ (row : LinkRow). row.load) link_cmp (link_row mapping hashes link older newest) newest.load
      (λ item row gives. ap (λ (row : LinkRow). row.load) (sym (if_not (is_known mapping (Link link) older item.refs) _ row gives))) (deliveries mapping (Link link) newest)

-- ---- feeds

-- where the rows of an extract's batch have its load date, those of a window's batch have the window's
feed_stamped : {R : Type 0} (load : R → ℕ) (feed : ℕ) (batch : List Extract → Extract → List R) → ((older : List Extract) (newest : Extract) (row : R) → Contains (batch older newest) row → load row ≡ newest.load)
    → (older : List Window) (newest : Window) (row : R) → Contains (feed_batch feed batch older newest) row → load row ≡ newest.load
feed_stamped load feed batch stamped older newest row = by (extract_of feed newest) refl
  where
    by : (found : Option Extract) → extract_of feed newest ≡ found → Contains (batch_at batch (history feed older) found) row → load row ≡ newest.load
    by None e has = Contains-nil row has
    by (Some extract) e has = stamped (history feed older) extract row has ∙ extract-load feed newest extract e

module _ (hashes : Hashes) (source : List ℕ) (older : List Extract) (newest : Extract) where
  pub sat_stamped : (row : SatRow) → Contains (sat_batch hashes source older newest) row → row.load ≡ newest.load
  sat_stamped =
      batch_stamped (λ (row : SatRow). row.load) sat_cmp (sat_row hashes source older newest) newest.load
      (λ of row gives. ap (λ (row : SatRow). row.load) (sym (if_so (is_changed older newest of.refs) _ row gives))) newest.rows

  pub status_stamped : (row : StatusRow) → Contains (status_batch hashes source older newest) row → row.load ≡ newest.load
  status_stamped =
      batch_stamped (λ (row : StatusRow). row.load) status_cmp (status_row hashes source older newest) newest.load
      (λ refs row gives. let (code, found, made) = made_of _ (code_of older newest refs) row gives in ap (λ (row : StatusRow). row.load) (sym made)) (all_refs (newest_rows older) ++ all_refs newest.rows)

  pub effect_stamped : (row : EffectRow) → Contains (effect_batch hashes source older newest) row → row.load ≡ newest.load
  effect_stamped =
      batch_stamped (λ (row : EffectRow). row.load) effect_cmp (effect_row hashes source older newest) newest.load
      (λ refs row gives. let (span, found, made) = made_of _ (span_between newest.load (run_begin older refs) (delivers newest.rows refs)) row gives in ap (λ (row : EffectRow). row.load) (sym made))
      (all_refs (newest_rows older) ++ all_refs newest.rows)

-- ---- tables

module _ (mapping : Mapping) (hashes : Hashes) (older : Backwards) (window : Window) (early : AllBefore (λ (other : Window). other.load) window.load older.windows) where
  -- without the rows of the window's load date a table is that after the older ones, whether its batch is there or not
  pub record IsLeft (id : TableId) : Type 0 where
    pub before : sealed_rows (Some window) (table_after mapping hashes older id) ≡ table_after mapping hashes older id
    pub with_batch : sealed_rows (Some window) (table_after mapping hashes (with_newest window older) id) ≡ table_after mapping hashes older id

  -- the same of the tables of a feed
  module _ {R : Type 0} (load : R → ℕ) (cmp : R → R → Ordering) (feed : ℕ) (batch : List Extract → Extract → List R) (stamped : (older : List Extract) (newest : Extract) (row : R) → Contains (batch older newest) row → load row ≡ newest.load) where
    abbrev feed_rows : List Window → Window → List R
    feed_rows = feed_batch feed batch

    feed_left : (filter (λ row. not (load row == window.load)) (appended feed_rows older.windows) ≡ appended feed_rows older.windows)
        × (filter (λ row. not (load row == window.load)) (appended feed_rows (window ∷ older.windows)) ≡ appended feed_rows older.windows)
    feed_left = others_left load cmp feed_rows (feed_stamped load feed batch stamped) older.windows window early

  pub rows_left : (id : TableId) → IsLeft id
  rows_left (ids.Hub hub) =
      let (same, less) = others_left (λ (row : HubRow). row.load) hub_cmp (hub_batch mapping hashes hub) (hub_stamped mapping hashes hub) older.windows window early in
      record { before = ap Hubs same; with_batch = ap Hubs less }
  rows_left (ids.Link link) =
      let (same, less) = others_left (λ (row : LinkRow). row.load) link_cmp (link_batch mapping hashes link) (link_stamped mapping hashes link) older.windows window early in
      record { before = ap Links same; with_batch = ap Links less }
  rows_left (ids.Sat feed) =
      let (same, less) = feed_left (λ (row : SatRow). row.load) sat_cmp feed (sat_batch hashes (source mapping feed)) (sat_stamped hashes (source mapping feed)) in
      record { before = ap Sats same; with_batch = ap Sats less }
  rows_left (ids.Multi feed) =
      let (same, less) = feed_left (λ (row : MultiRow). row.load) multi_cmp feed (multi_batch hashes (source mapping feed)) (multi_stamped hashes (source mapping feed)) in
      record { before = ap Multis same; with_batch = ap Multis less }
  rows_left (ids.Status feed) =
      let (same, less) = feed_left (λ (row : StatusRow). row.load) status_cmp feed (status_batch hashes (source mapping feed)) (status_stamped hashes (source mapping feed)) in
      record { before = ap Statuses same; with_batch = ap Statuses less }
  rows_left (ids.Effect feed) =
      let (same, less) = feed_left (λ (row : EffectRow). row.load) effect_cmp feed (effect_batch hashes (source mapping feed)) (effect_stamped hashes (source mapping feed)) in
      record { before = ap Effects same; with_batch = ap Effects less }
