-- The rows that a window adds to a hub or a link have its load date.
use Rattle.dv_vault.proofs.Vocabulary.{All, All-contains_itself, Bool, Contains, Delivery, HashedList, Hashes, HubRow, LinkRow, List, Mapping, None, Option, Place, Some, delta, false, filter_map, filter_map_member, has_row_under, hashed_item, hub_delta, hub_place, hub_row_has, hub_row_of}
use Rattle.dv_vault.proofs.Vocabulary.{if◌then◌else◌, is_missing, link_delta, link_place, link_row, list_all, member_before_sort, new_row, row_cmp, true, ℕ, ◌||◌, ◌≡◌}

pub all_from_members : {X : Type 0} (P : X → Type 0) (xs : List X) → ((x : X) → Contains xs x → P x) → All P xs
all_from_members P xs f = λ k d under. f _ (All-contains_itself xs k d under)

module _ {R : Type 0} (place : R → Place) (row_of : HashedList → Option R) (hashes : Hashes) (rows : List R) where
  -- a new row is made of a delivered list
  pub row_made : (item : Delivery) (row : R) → new_row place row_of hashes rows item ≡ Some row → row_of (hashed_item hashes item) ≡ Some row
  row_made item row is = by (list_all is_missing item.refs || has_row_under place (hashes.hash item.refs) rows) is
    where
      by : (known : Bool) → (if known then None else row_of (hashed_item hashes item)) ≡ Some row → row_of (hashed_item hashes item) ≡ Some row
      by true e = let no : None ≡ Some row = e in cc
      by false e = e

  -- what holds of each row that is made of a list holds of all rows that deliveries add
  delta_rows : (P : R → Type 0) → ((list : HashedList) (row : R) → row_of list ≡ Some row → P row) → (items : List Delivery) → All P (delta place row_of hashes rows items)
  delta_rows P made items = all_from_members P (delta place row_of hashes rows items) (λ row has.
      let (item, member, is) = filter_map_member (new_row place row_of hashes rows) items row (member_before_sort (row_cmp place) (filter_map (new_row place row_of hashes rows) items) row has) in
      made (hashed_item hashes item) row (row_made item row is))

pub hub_delta_load : (mapping : Mapping) (hashes : Hashes) (load : ℕ) (rows : List HubRow) (items : List Delivery) → All (λ row. row.load ≡ load) (hub_delta mapping hashes load rows items)
hub_delta_load mapping hashes load rows items =
    delta_rows hub_place (hub_row_of mapping load) hashes rows (λ (row : HubRow). row.load ≡ load) (λ list row is. (hub_row_has mapping load list row is).1) items

pub link_delta_load : (mapping : Mapping) (hashes : Hashes) (load : ℕ) (rows : List LinkRow) (items : List Delivery) → All (λ row. row.load ≡ load) (link_delta mapping hashes load rows items)
link_delta_load mapping hashes load rows items =
    delta_rows link_place (λ list. Some (link_row mapping hashes load list)) hashes rows (λ (row : LinkRow). row.load ≡ load) (λ list row is. loaded list row is) items
  where
    loaded : (list : HashedList) (row : LinkRow) → Some (link_row mapping hashes load list) ≡ Some row → row.load ≡ load
    loaded list row is = cc
