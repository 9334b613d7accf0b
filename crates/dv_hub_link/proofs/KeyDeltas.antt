-- The rows that are made of new lists are the delta, stand behind those of the table, and over windows are the batch.
use Rattle.dv_hub_link.proofs.Vocabulary.{Answers, AreItems, Bool, Bor, Collision, Contains, Delivery, DeltaFault, Err, HasNoClash, Hashed, HashedList, Hashes, IfCollides, IfOk, IsLeastClash, Key, LentList, List, Mapping, Memory, None, Ok, Option, Pair, Parent, Place, Result, Some, Window, []}
use Rattle.dv_hub_link.proofs.Vocabulary.{all_hashed, ap, are_placed_rows, batch_of, beside, collision_in, deliveries, delta, false, filter_map, filter_map_member, filter_map_same, has_row_under, hashed_item, if◌then◌else◌, is_held, is_known, is_missing, list_all, list_under, lists_of, map}
use Rattle.dv_hub_link.proofs.Vocabulary.{nat_le, new_lists, new_row, option_map, refl, reverse, row_cmp, row_under, sorted_by, standing, subst, sym, told, true, zip, ℕ, ◌++◌, ◌||◌, ◌∙◌, ◌∷◌, ◌≡◌}
use Rattle.dv_hub_link.proofs.{Batches.filter_map_none, Batches.rows_are, Batches.rows_ascend, Batches.rows_new, Held.is_held_rows, Held.list_under_rows, Placed.whole, WindowLists.HoldsOffered, WindowLists.delivery_kept, WindowLists.held_is_known, WindowLists.held_item}

module _ {R : Type 0} (place : R → Place) (list : R → List Key) where
  -- the list of the row that is found
  pub none_found : (digest : List ℕ) (rows : List R) (found : Option (Bor R)) → option_map (λ (row : Bor R). row.now) found ≡ row_under place digest rows → found ≡ None → list_under digest (lists_of place list rows) ≡ None
  none_found digest rows found e is = list_under_rows place list digest rows ∙ ap (option_map list) (sym e ∙ ap (option_map (λ (row : Bor R). row.now)) is)

  pub one_found : (digest : List ℕ) (rows : List R) (found : Option (Bor R)) → option_map (λ (row : Bor R). row.now) found ≡ row_under place digest rows → (row : Bor R) → found ≡ Some row
      → list_under digest (lists_of place list rows) ≡ Some (list row.now)
  one_found digest rows found e row is = list_under_rows place list digest rows ∙ ap (option_map list) (sym e ∙ ap (option_map (λ (row : Bor R). row.now)) is)

  -- how a list stands to the row that is found under its hash key
  beside_row : (rows : List R) (lent : LentList) (found : Option (Bor R)) → option_map (λ (row : Bor R). row.now) found ≡ row_under place lent.digest rows
      → beside lent.refs.now (option_map (λ (row : Bor R). list row.now) found) ≡ standing (lists_of place list rows) (told lent)
  beside_row rows lent found e = ap (beside lent.refs.now) (by found ∙ ap (option_map list) e ∙ sym (list_under_rows place list lent.digest rows))
    where
      by : (o : Option (Bor R)) → option_map (λ (row : Bor R). list row.now) o ≡ option_map list (option_map (λ (row : Bor R). row.now) o)
      by None = refl
      by (Some row) = refl

  pub beside_rows : (rows : List R) (lents : List LentList) (found : List (Option (Bor R))) → map (option_map (λ (row : Bor R). row.now)) found ≡ map (λ digest. row_under place digest rows) (map (λ (lent : LentList). lent.digest) lents)
      → map (λ (lent, row). beside lent.refs.now (option_map (λ (r : Bor R). list r.now) row)) (zip lents found) ≡ map (λ lent. standing (lists_of place list rows) (told lent)) lents
  beside_rows rows [] found e = refl
  beside_rows rows (lent ∷ lents) [] e = cc
  beside_rows rows (lent ∷ lents) (first ∷ found) e =
      let here : option_map (λ (row : Bor R). row.now) first ≡ row_under place lent.digest rows = cc in
      let rest : map (option_map (λ (row : Bor R). row.now)) found ≡ map (λ digest. row_under place digest rows) (map (λ (l : LentList). l.digest) lents) = cc in
      λ i. beside_row rows lent first here i ∷ beside_rows rows lents found rest i

  module _ (hashes : Hashes) (row_of : HashedList → Option R) where
    module _ (load : ℕ)
        (digests : (h : HashedList) (row : R) → row_of h ≡ Some row → (place row).parent ≡ h.digest)
        (loads : (h : HashedList) (row : R) → row_of h ≡ Some row → (place row).load ≡ load)
        (mapping : Mapping) (rows : List R) (kept : are_placed_rows place rows ≡ true) (dated : list_all (λ row. nat_le (place row).load load) rows ≡ true) where
      -- the rows that are made of the new lists
      pub made_are : (items : List Delivery) → AreItems mapping items → HasNoClash (all_hashed mapping hashes (lists_of place list rows) items)
          → (made : List R) → made ≡ filter_map row_of (new_lists hashes (lists_of place list rows) items) → (made ≡ delta place row_of hashes rows items) × (are_placed_rows place (rows ++ made) ≡ true)
      made_are items are none made is = (
        is
            ∙ rows_are (λ row. (place row).parent) mapping hashes held items are.apart none row_of digests (new_row place row_of hashes rows)
            (λ item. ap (λ t. if list_all is_missing item.refs || t then None else row_of (hashed_item hashes item)) (sym (is_held_rows place list (hashes.hash item.refs) rows))),
        subst (λ m. are_placed_rows place (rows ++ m) ≡ true) (sym is)
            (whole place load rows (filter_map row_of (new_lists hashes held items)) kept dated
            (rows_ascend (λ row. (place row).parent) mapping hashes held items are.apart none row_of digests)
            (λ row has.
            let (h, h_in, e) = filter_map_member row_of (new_lists hashes held items) row has in (
              loads h row e,
              sym (is_held_rows place list (place row).parent rows) ∙ rows_new (λ r. (place r).parent) mapping hashes held items are.apart none row_of digests row has,
            ))),
      )
        where
          held : List Hashed
          held = lists_of place list rows

-- ---- windows

module _ {R : Type 0} (place : R → Place) (list : R → List Key) (mapping : Mapping) (hashes : Hashes) (parent : Parent) (row_of : ℕ → HashedList → Option R) where
  -- the row of a delivery of a window; none where an older window brings the list
  abbrev pub window_row : List Window → Window → Delivery → Option R
  window_row older window item = if is_known mapping parent older item.refs then None else row_of window.load (hashed_item hashes item)

  module _ (older : List Window) (window : Window) (rows : List R) where
    has_row : (item : Delivery) → has_row_under place (hashes.hash item.refs) rows ≡ is_held (hashes.hash item.refs) (lists_of place list rows)
    has_row item = sym (is_held_rows place list (hashes.hash item.refs) rows)

    -- a table that holds the window's batch
    pub held_nothing : HoldsOffered mapping hashes parent (window ∷ older) (lists_of place list rows) → (load : ℕ) → delta place (row_of load) hashes rows (deliveries mapping parent window) ≡ []
    held_nothing holds load = ap (sorted_by (row_cmp place)) (filter_map_none (new_row place (row_of load) hashes rows) (deliveries mapping parent window) none)
      where
        none : (item : Delivery) → Contains (deliveries mapping parent window) item → new_row place (row_of load) hashes rows item ≡ None
        none item has = by (list_all is_missing item.refs) refl
          where
            there : has_row_under place (hashes.hash item.refs) rows ≡ true
            there = has_row item ∙ held_item mapping hashes parent older window (lists_of place list rows) holds item has

            by : (t : Bool) → list_all is_missing item.refs ≡ t → new_row place (row_of load) hashes rows item ≡ None
            by true e = rw e refl
            by false e = rw (e, there) refl

    -- a table of the older windows
    pub next_rows : HoldsOffered mapping hashes parent older (lists_of place list rows) → collision_in mapping hashes (reverse (window ∷ older)) parent ≡ None
        → delta place (row_of window.load) hashes rows (deliveries mapping parent window) ≡ batch_of (row_cmp place) (window_row older window) (deliveries mapping parent window)
    next_rows holds free = ap (sorted_by (row_cmp place)) (filter_map_same (new_row place (row_of window.load) hashes rows) (window_row older window) (deliveries mapping parent window) same)
      where
        same : (item : Delivery) → Contains (deliveries mapping parent window) item → new_row place (row_of window.load) hashes rows item ≡ window_row older window item
        same item has =
            let kept = (delivery_kept mapping hashes parent window item has).1 in
            let known = has_row item ∙ held_is_known mapping hashes parent older window (lists_of place list rows) holds free item has in
            rw (kept, known) refl

-- ---- answers

-- what is answered, where without a clash there is no collision and the delta is the batch, and the least clash is the
-- collision
module _ {R : Type 0} (all : List Hashed) (delta : List R) (collision : Option Pair) (batch : List R) (free : HasNoClash all → (collision ≡ None) × (delta ≡ batch))
    (collides : (pair : Pair) → IsLeastClash all pair → collision ≡ Some pair) where
  pub answers : (result : Result (List R) DeltaFault) → IfOk result (λ made. HasNoClash all) → IfOk result (λ made. made ≡ delta) → IfCollides result (IsLeastClash all) → Answers result collision batch
  answers (Ok made) apart is least = let both = free apart in (both.0, is ∙ both.1)
  answers (Err (Collision first second)) apart is least = collides (record { first = first; second = second }) least
  answers (Err Memory) apart is least = tt

-- a fault is one of any answer
pub fault_collides : (R S : Type 0) (fault : DeltaFault) (P : Pair → Type 0) → IfCollides {R = R} (Err fault) P → IfCollides {R = S} (Err fault) P
fault_collides R S (Collision first second) P holds = holds
fault_collides R S Memory P holds = tt

-- rows that are made of each list
pub map_filter : {X Y : Type 0} (f : X → Y) (xs : List X) → map f xs ≡ filter_map (λ x. Some (f x)) xs
map_filter f [] = refl
map_filter f (x ∷ xs) = ap (◌∷◌ (f x)) (map_filter f xs)
