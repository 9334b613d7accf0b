-- What a window adds to a hub or a link, and what clashes there, depends on its deliveries as a set.
use Rattle.dv_vault.proofs.Vocabulary.{AreDeliveriesOf, AreHubItems, AreLinkItems, Collision, Contains, Contains-append_cases, Contains-append_left, Contains-append_right, Contains-cons_here, Contains-nil, Delivery, DeltaFault, Err, HasNoClash, Hashed, HashedList, Hashes, Hub, HubName, HubRow}
use Rattle.dv_vault.proofs.Vocabulary.{IfCollides, IsClash, IsLeastClash, IsTotalOrder, Link, LinkRow, List, Mapping, Memory, Option, Pair, Parent, Place, Some, TableId, Window, [], ap, ascending-sorted_by, brought, brought_cases, deliveries, deliveries_member, delta, filter_map}
use Rattle.dv_vault.proofs.Vocabulary.{filter_map_member, hashed_by, hashed_item, hub_delta, hub_hashed, hub_place, hub_row_has, hub_row_of, hubs_of, inl, inr, item_in, link_delta, link_hashed, link_place, link_row, member_after_sort, member_before_sort, member_of_filter_map, missing_in}
use Rattle.dv_vault.proofs.Vocabulary.{missing_there, nat_list_cmp_total, new_row, on_total, one_list, refl, row_cmp, same_Some, same_ascending, same_digest, stored, subst, sym, ℕ, ◌++◌, ◌∙◌, ◌∷◌, ◌≡◌}
use Rattle.dv_hub_link.specs.LinkLists.{hubs_in}
use Rattle.dv_vault.proofs.Stamped.{row_made}
use Rattle.dv_catalog.specs.declared.tables.TableId.TheVariants as ids

-- ---- clashes

clash_moved : (all others : List Hashed) → ((list : Hashed) → Contains all list → Contains others list) → (pair : Pair) → IsClash all pair → IsClash others pair
clash_moved all others to pair is = record { digest = is.digest; has_first = to _ is.has_first; has_second = to _ is.has_second; ordered = is.ordered }

-- what holds of a pair that is answered
pub collides_as : (R S : Type 0) (fault : DeltaFault) (P Q : Pair → Type 0) → ((pair : Pair) → P pair → Q pair) → IfCollides {R = R} (Err fault) P → IfCollides {R = S} (Err fault) Q
collides_as R S (Collision first second) P Q weaker holds = weaker (record { first = first; second = second }) holds
collides_as R S Memory P Q weaker holds = tt

-- all that is brought and stored, by deliveries of one table
module _ (mapping : Mapping) (hashes : Hashes) (items others : List Delivery) (to : (item : Delivery) → Contains items item → Contains others item) (table : TableId)
    (tables : (item : Delivery) → Contains others item → item.table ≡ table) where
  brought_moved : (list : Hashed) → Contains (brought mapping hashes items) list → Contains (brought mapping hashes others) list
  brought_moved list has =
      let (refs, is, cases) = brought_cases mapping hashes items list has in
      subst (Contains (brought mapping hashes others)) is (elim cases [
        | inl (first, first_in, e) ↦
            subst (λ refs. Contains (brought mapping hashes others) (hashed_by hashes refs)) e
            (missing_there mapping hashes others first (to first first_in) (missing_in mapping first.table)
            (λ item has. ap (missing_in mapping) (tables item has ∙ sym (tables first (to first first_in)))))
        | inr (item, member, e) ↦ subst (λ refs. Contains (brought mapping hashes others) (hashed_by hashes refs)) e (item_in mapping hashes others item (to item member))
      ])

  all_moved : (stored : List Hashed) (list : Hashed) → Contains (brought mapping hashes items ++ stored) list → Contains (brought mapping hashes others ++ stored) list
  all_moved stored list has = elim (Contains-append_cases (brought mapping hashes items) stored list has) [
    | inl new ↦ Contains-append_left (brought mapping hashes others) stored list (brought_moved list new)
    | inr old ↦ Contains-append_right (brought mapping hashes others) stored list old
  ]

-- ---- rows

module _ {R : Type 0} (place : R → Place) (row_of : HashedList → Option R) (hashes : Hashes) (rows : List R)
    (under : (list : HashedList) (row : R) → row_of list ≡ Some row → (place row).parent ≡ list.digest) where
  abbrev made_of : Delivery → Option R
  made_of = new_row place row_of hashes rows

  stands_under : (item : Delivery) (row : R) → made_of item ≡ Some row → (place row).parent ≡ hashes.hash item.refs
  stands_under item row is = under (hashed_item hashes item) row (row_made place row_of hashes rows item row is)

  -- a row that some deliveries add is added by all that have these among them, of which no two have one hash key
  row_moved : (items others : List Delivery) → ((item : Delivery) → Contains items item → Contains others item)
      → ((a b : Delivery) → Contains others a → Contains others b → hashes.hash a.refs ≡ hashes.hash b.refs → a ≡ b)
      → (row : R) → Contains (delta place row_of hashes rows items) row → Contains (delta place row_of hashes rows others) row
  row_moved items others to one row has =
      let (item, member, is) = filter_map_member made_of items row (member_before_sort (row_cmp place) (filter_map made_of items) row has) in
      member_after_sort (row_cmp place) (filter_map made_of others) row
      (λ other other_in tie.
      let (thing, thing_in, made) = filter_map_member made_of others other other_in in
      let hash_is = sym (stands_under thing other made) ∙ same_digest (place other).parent (place row).parent tie ∙ stands_under item row is in
      same_Some other row (sym made ∙ ap made_of (one thing item thing_in (to item member) hash_is) ∙ is))
      (member_of_filter_map made_of others item row (to item member) is)

  row_total : IsTotalOrder (row_cmp place)
  row_total = on_total (λ (row : R). (place row).parent) nat_list_cmp_total

  same_rows : (items others : List Delivery) → ((item : Delivery) → Contains items item → Contains others item) → ((item : Delivery) → Contains others item → Contains items item)
      → ((a b : Delivery) → Contains items a → Contains items b → hashes.hash a.refs ≡ hashes.hash b.refs → a ≡ b)
      → delta place row_of hashes rows items ≡ delta place row_of hashes rows others
  same_rows items others to back one =
      same_ascending (row_cmp place) row_total (delta place row_of hashes rows items) (delta place row_of hashes rows others)
      (ascending-sorted_by (row_cmp place) row_total (filter_map made_of items)) (ascending-sorted_by (row_cmp place) row_total (filter_map made_of others))
      (row_moved items others to (λ a b a_in b_in e. one a b (back a a_in) (back b b_in) e)) (row_moved others items back one)

-- ---- deliveries of a window in any order

module _ (mapping : Mapping) (hashes : Hashes) (parent : Parent) (window : Window) (items : List Delivery) (are : AreDeliveriesOf mapping parent window items) where
  abbrev ordered : List Delivery
  ordered = deliveries mapping parent window

  to_ordered : (item : Delivery) → Contains items item → Contains ordered item
  to_ordered item has = (deliveries_member mapping parent window item).1 (are.first item has)

  from_ordered : (item : Delivery) → Contains ordered item → Contains items item
  from_ordered item has = are.whole item.refs item ((deliveries_member mapping parent window item).0 has)

  -- where nothing clashes, deliveries of one hash key are one
  one_delivery : (stored : List Hashed) → HasNoClash (brought mapping hashes items ++ stored) → ((a b : Delivery) → Contains ordered a → Contains ordered b → a.refs ≡ b.refs → a ≡ b)
      → (a b : Delivery) → Contains items a → Contains items b → hashes.hash a.refs ≡ hashes.hash b.refs → a ≡ b
  one_delivery stored none apart a b a_in b_in e =
      let there = λ (d : Delivery) (has : Contains items d). Contains-append_left (brought mapping hashes items) stored (hashed_by hashes d.refs) (item_in mapping hashes items d has) in
      apart a b (to_ordered a a_in) (to_ordered b b_in)
      (one_list (brought mapping hashes items ++ stored) none (hashes.hash a.refs) a.refs b.refs (there a a_in)
      (subst (λ digest. Contains (brought mapping hashes items ++ stored) (record { digest = digest; refs = b.refs })) (sym e) (there b b_in)))

  module _ (table : TableId) (tables : (item : Delivery) → Contains ordered item → item.table ≡ table) (stored : List Hashed) where
    none_clashes : HasNoClash (brought mapping hashes items ++ stored) → HasNoClash (brought mapping hashes ordered ++ stored)
    none_clashes none pair is = none pair (clash_moved _ _ (all_moved mapping hashes ordered items from_ordered table (λ item has. tables item (to_ordered item has)) stored) pair is)

    least_clashes : (pair : Pair) → IsLeastClash (brought mapping hashes items ++ stored) pair → IsLeastClash (brought mapping hashes ordered ++ stored) pair
    least_clashes pair is = record {
      is = clash_moved _ _ (all_moved mapping hashes items ordered to_ordered table tables stored) pair is.is;
      least = λ other clash less. is.least other (clash_moved _ _ (all_moved mapping hashes ordered items from_ordered table (λ item has. tables item (to_ordered item has)) stored) other clash) less;
    }

-- those of a hub
module _ (mapping : Mapping) (hashes : Hashes) (hub : ℕ) (window : Window) (items : List Delivery) (are : AreDeliveriesOf mapping (Hub hub) window items) (of : AreHubItems mapping (deliveries mapping (Hub hub) window)) where
  hub_tables : (item : Delivery) → Contains (deliveries mapping (Hub hub) window) item → item.table ≡ ids.Hub of.hub
  hub_tables item has = (of.each item has).table

  pub set_of_hub : AreHubItems mapping items
  set_of_hub = record {
    hub = of.hub;
    declared = of.declared;
    each = λ item has. of.each item (to_ordered mapping hashes (Hub hub) window items are item has);
    apart = λ a b a_in b_in e. of.apart a b (to_ordered mapping hashes (Hub hub) window items are a a_in) (to_ordered mapping hashes (Hub hub) window items are b b_in) e;
  }

  pub hub_apart_same : (rows : List HubRow) → HasNoClash (hub_hashed mapping hashes rows items) → HasNoClash (hub_hashed mapping hashes rows (deliveries mapping (Hub hub) window))
  hub_apart_same rows none = none_clashes mapping hashes (Hub hub) window items are (ids.Hub of.hub) hub_tables _ none

  pub hub_clash_same : (rows : List HubRow) (pair : Pair) → IsLeastClash (hub_hashed mapping hashes rows items) pair → IsLeastClash (hub_hashed mapping hashes rows (deliveries mapping (Hub hub) window)) pair
  hub_clash_same rows pair is = least_clashes mapping hashes (Hub hub) window items are (ids.Hub of.hub) hub_tables _ pair is

  pub hub_rows_same : (load : ℕ) (rows : List HubRow) → HasNoClash (hub_hashed mapping hashes rows items) → hub_delta mapping hashes load rows items ≡ hub_delta mapping hashes load rows (deliveries mapping (Hub hub) window)
  hub_rows_same load rows none =
      same_rows hub_place (hub_row_of mapping load) hashes rows (λ list row is. (hub_row_has mapping load list row is).0) items (deliveries mapping (Hub hub) window)
      (to_ordered mapping hashes (Hub hub) window items are) (from_ordered mapping hashes (Hub hub) window items are) (one_delivery mapping hashes (Hub hub) window items are _ none of.apart)

-- and those of a link
module _ (mapping : Mapping) (hashes : Hashes) (link : ℕ) (window : Window) (items : List Delivery) (are : AreDeliveriesOf mapping (Link link) window items)
    (of : AreLinkItems mapping (deliveries mapping (Link link) window)) (names : List HubName) where
  abbrev all : List Delivery
  all = deliveries mapping (Link link) window

  to : (item : Delivery) → Contains items item → Contains all item
  to = to_ordered mapping hashes (Link link) window items are

  from : (item : Delivery) → Contains all item → Contains items item
  from = from_ordered mapping hashes (Link link) window items are

  link_tables : (item : Delivery) → Contains all item → item.table ≡ ids.Link of.link
  link_tables item has = (of.each item has).table

  pub set_of_link : AreLinkItems mapping items
  set_of_link = record {
    link = of.link;
    declared = of.declared;
    each = λ item has. of.each item (to item has);
    apart = λ a b a_in b_in e. of.apart a b (to a a_in) (to b b_in) e;
  }

  -- they are of one link, or there are none
  same_hubs : hubs_of mapping items ≡ hubs_of mapping all
  same_hubs = by items all to from link_tables
    where
      by : (xs ys : List Delivery) → ((item : Delivery) → Contains xs item → Contains ys item) → ((item : Delivery) → Contains ys item → Contains xs item)
          → ((item : Delivery) → Contains ys item → item.table ≡ ids.Link of.link) → hubs_of mapping xs ≡ hubs_of mapping ys
      by [] [] to from tables = refl
      by [] (y ∷ ys) to from tables = Contains-nil y (from y (Contains-cons_here y ys))
      by (x ∷ xs) [] to from tables = Contains-nil x (to x (Contains-cons_here x xs))
      by (x ∷ xs) (y ∷ ys) to from tables = ap (hubs_in mapping) (tables x (to x (Contains-cons_here x xs)) ∙ sym (tables y (Contains-cons_here y ys)))

  abbrev hashed_with : List ℕ → List LinkRow → List Delivery → List Hashed
  hashed_with hubs rows deliveries = brought mapping hashes deliveries ++ stored mapping names hubs rows

  pub link_apart_same : (rows : List LinkRow) → HasNoClash (link_hashed mapping hashes names rows items) → HasNoClash (link_hashed mapping hashes names rows all)
  link_apart_same rows none =
      none_clashes mapping hashes (Link link) window items are (ids.Link of.link) link_tables (stored mapping names (hubs_of mapping all) rows)
      (subst (λ hubs. HasNoClash (hashed_with hubs rows items)) same_hubs none)

  pub link_clash_same : (rows : List LinkRow) (pair : Pair) → IsLeastClash (link_hashed mapping hashes names rows items) pair → IsLeastClash (link_hashed mapping hashes names rows all) pair
  link_clash_same rows pair is =
      least_clashes mapping hashes (Link link) window items are (ids.Link of.link) link_tables (stored mapping names (hubs_of mapping all) rows) pair
      (subst (λ hubs. IsLeastClash (hashed_with hubs rows items) pair) same_hubs is)

  pub link_rows_same : (load : ℕ) (rows : List LinkRow) → HasNoClash (link_hashed mapping hashes names rows items) → link_delta mapping hashes load rows items ≡ link_delta mapping hashes load rows all
  link_rows_same load rows none =
      same_rows link_place (λ list. Some (link_row mapping hashes load list)) hashes rows under items all to from (one_delivery mapping hashes (Link link) window items are _ none of.apart)
    where
      under : (list : HashedList) (row : LinkRow) → Some (link_row mapping hashes load list) ≡ Some row → (link_place row).parent ≡ list.digest
      under list row is = ap (λ (row : LinkRow). row.digest) (sym (same_Some (link_row mapping hashes load list) row is))
