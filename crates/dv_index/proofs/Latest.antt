-- The row before the point up to which an index is reached is a parent's latest one, where it is the parent's.
use Rattle.dv_index.proofs.Vocabulary.{Bool, Equal, Greater, IsIndex, IsReachedPoint, Less, List, None, Ordering, Place, Some, [], and_from, and_parts, arith, bytes_eq, bytes_eq-Decides, cases_lt, false, false_from_ne_true, false≢true, get_or, get_or-map, get_or_default, inl, inr}
use Rattle.dv_index.proofs.Vocabulary.{is_reached_by, latest_at, le-leb, leb-true, length, length-map, load_at, loads_of, nat_le, nat_list_cmp_total, nat_tests, parent_at, parents_of, refl, row_before, slice_get, slice_get-get_or, sym, text_cmp, text_cmp-IsAntisymmetric, tied_itself, true, ℕ}
use Rattle.dv_index.proofs.Vocabulary.{◌&&◌, ◌-◌, ◌<◌, ◌==◌, ◌∙◌, ◌∷◌, ◌≡◌, ◌≤◌, ◌⊎◌}
use Rattle.dv_index.proofs.{LastFound.last_none, LastFound.last_found, Order.in_order, Order.le_from_not_lt, Order.number_there, Order.within}

pub same_cmp : (a b : List ℕ) → a ≡ b → text_cmp a b ≡ Equal
same_cmp a b same = rw same (tied_itself nat_list_cmp_total b)

-- a row that is reached is of the parent and early enough, or of a lesser parent
reached_early : (p parent : List ℕ) (load date : ℕ) → p ≡ parent → is_reached_by (text_cmp p parent) (nat_le load date) ≡ true → load ≤ date
reached_early p parent load date same reached = leb-true load date (rw (same_cmp p parent same) at reached)

early_reached : (p parent : List ℕ) (load date : ℕ) → p ≡ parent → load ≤ date → is_reached_by (text_cmp p parent) (nat_le load date) ≡ true
early_reached p parent load date same early = rw (same_cmp p parent same) (le-leb load date early)

reached_lesser : (p parent : List ℕ) (early : Bool) → (p ≡ parent → ⊥) → is_reached_by (text_cmp p parent) early ≡ true → text_cmp p parent ≡ Less
reached_lesser p parent early differs reached = by (text_cmp p parent) refl
  where
    by : (r : Ordering) → text_cmp p parent ≡ r → text_cmp p parent ≡ Less
    by Less e = e
    by Equal e = absurd (differs (text_cmp-IsAntisymmetric p parent e))
    by Greater e = absurd (false≢true (rw e at reached))

-- there is a row where there is a number of one
pub some_row : {X : Type 0} (rows : List X) (n : ℕ) → n < length rows → X
some_row [] n under = absurd (omega arith)
some_row (row ∷ rows) n under = row

module _ {X : Type 0} (place : X → Place) (rows : List X) (index : List ℕ) (is : IsIndex (parents_of place rows) index) (parent : List ℕ) (date count : ℕ) (bound : count ≤ length index)
    (point : IsReachedPoint (parents_of place rows) (loads_of place rows) parent date index count) where
  -- a row of the parent, not later than the date
  abbrev passes : X → Bool
  passes row = bytes_eq (place row).parent parent && nat_le (place row).load date

  parent_is : (j : ℕ) (d : X) → j < length rows → parent_at (parents_of place rows) j ≡ (place (get_or rows j d)).parent
  parent_is j d under = get_or-map (λ row. (place row).parent) rows j d _ under

  load_is : (j : ℕ) (d : X) → j < length rows → load_at (loads_of place rows) j ≡ (place (get_or rows j d)).load
  load_is j d under = get_or-map (λ row. (place row).load) rows j d _ under

  of_parent : (j : ℕ) (d : X) → j < length rows → passes (get_or rows j d) ≡ true → parent_at (parents_of place rows) j ≡ parent
  of_parent j d under pass =
      parent_is j d under ∙ (bytes_eq-Decides (place (get_or rows j d)).parent parent).0 (and_parts _ (nat_le (place (get_or rows j d)).load date) pass).0

  -- its number stands in the index's first part
  stands : (j : ℕ) (d : X) → j < length rows → passes (get_or rows j d) ≡ true → (k : ℕ) × (k < count) × (get_or index k 0 ≡ j)
  stands j d under pass =
      let early : (place (get_or rows j d)).load ≤ date = leb-true _ _ (and_parts (bytes_eq (place (get_or rows j d)).parent parent) _ pass).1 in
      let reached = early_reached (parent_at (parents_of place rows) j) parent (load_at (loads_of place rows) j) date (of_parent j d under pass) (rw (load_is j d under) early) in
      let (k, inside, there) = number_there (parents_of place rows) index is j (rw length-map under) in
      let here : get_or index k 0 ≡ j = get_or_default index k 0 j inside ∙ there in
      elim (cases_lt k count) [
        | inl before ↦ (k, before, here)
        | inr behind ↦ absurd (false≢true (sym (rw here at (point.1 k 0 behind inside)) ∙ reached))
      ]

  -- where nothing is reached, there is none
  pub latest_at_start : count ≡ 0 → latest_at place rows parent date ≡ None
  latest_at_start none = last_none passes rows (λ j d under. false_from_ne_true (passes (get_or rows j d)) (λ pass. let (k, before, here) = stands j d under pass in omega arith))

  -- the last number that is reached
  module _ (some : 0 < count) (row : X) (read : row ≡ get_or rows (get_or index (count - 1) 0) row) where
    inside : get_or index (count - 1) 0 < length rows
    inside = rw length-map at (within (parents_of place rows) index is (count - 1) 0 (omega arith))

    its_parent : parent_at (parents_of place rows) (get_or index (count - 1) 0) ≡ (place row).parent
    its_parent = rw (sym read) at (parent_is (get_or index (count - 1) 0) row inside)

    its_load : load_at (loads_of place rows) (get_or index (count - 1) 0) ≡ (place row).load
    its_load = rw (sym read) at (load_is (get_or index (count - 1) 0) row inside)

    -- it is the latest, if it is of the parent
    pub latest_found : (place row).parent ≡ parent → latest_at place rows parent date ≡ Some row
    latest_found same =
        let reached = point.0 (count - 1) 0 (omega arith) (omega arith) in
        let early = rw its_load at (reached_early _ parent _ date (its_parent ∙ same) reached) in
        let pass : passes row ≡ true = and_from _ _ ((bytes_eq-Decides (place row).parent parent).1 same) (le-leb _ date early) in
        rw (sym read) at (last_found passes rows (get_or index (count - 1) 0) row inside (rw (sym read) pass) later)
      where
        later : (j : ℕ) (e : X) → get_or index (count - 1) 0 < j → j < length rows → passes (get_or rows j e) ≡ false
        later j e behind under = false_from_ne_true (passes (get_or rows j e)) (λ pass.
            let (k, before, here) = stands j e under pass in
            let ordered = rw here at (in_order (parents_of place rows) index is k (count - 1) 0 (omega arith) (omega arith)) in
            let tied = same_cmp (parent_at (parents_of place rows) (get_or index (count - 1) 0)) (parent_at (parents_of place rows) j) (its_parent ∙ same ∙ sym (of_parent j e under pass)) in
            let back : j ≤ get_or index (count - 1) 0 = le_from_not_lt j (get_or index (count - 1) 0) (rw tied at ordered) in
            omega arith)

    -- there is none, if it is of another parent
    pub latest_missing : ((place row).parent ≡ parent → ⊥) → latest_at place rows parent date ≡ None
    latest_missing differs = last_none passes rows (λ j d under. false_from_ne_true (passes (get_or rows j d)) (λ pass.
        let reached = point.0 (count - 1) 0 (omega arith) (omega arith) in
        let less = reached_lesser _ parent _ (λ same. differs (sym its_parent ∙ same)) reached in
        let (k, before, here) = stands j d under pass in
        let ordered = rw here at (in_order (parents_of place rows) index is k (count - 1) 0 (omega arith) (omega arith)) in
        let lesser : text_cmp (parent_at (parents_of place rows) (get_or index (count - 1) 0)) (parent_at (parents_of place rows) j) ≡ Less = rw (of_parent j d under pass) less in
        false≢true (sym (rw lesser at ordered))))

  -- the row with the last number that is reached is the latest one, if it is of the parent
  pub latest_is : row_before place rows index parent count ≡ latest_at place rows parent date
  latest_is = by (cases_lt 0 count)
    where
      by : (0 < count) ⊎ (count ≤ 0) → row_before place rows index parent count ≡ latest_at place rows parent date
      by (inr none) =
          let start : count ≡ 0 = omega arith in
          rw (latest_at_start start, start) refl
      by (inl some) = at_row (bytes_eq (parent_at (parents_of place rows) number) parent) refl
        where
          number : ℕ
          number = get_or index (count - 1) 0

          small : number < length rows
          small = rw length-map at (within (parents_of place rows) index is (count - 1) 0 (omega arith))

          row : X
          row = get_or rows number (some_row rows number small)

          read : row ≡ get_or rows number row
          read = get_or_default rows number (some_row rows number small) row small

          there : slice_get rows number ≡ Some row
          there = slice_get-get_or rows number (some_row rows number small) small

          its : parent_at (parents_of place rows) number ≡ (place row).parent
          its = get_or-map (λ row. (place row).parent) rows number (some_row rows number small) [] small

          counted : (count == 0) ≡ false
          counted = grind (arith, nat_tests)

          at_row : (b : Bool) → bytes_eq (parent_at (parents_of place rows) number) parent ≡ b → row_before place rows index parent count ≡ latest_at place rows parent date
          at_row true own = rw (counted, own, there) (sym (latest_found some row read (sym its ∙ (bytes_eq-Decides (parent_at (parents_of place rows) number) parent).0 own)))
          at_row false other = rw (counted, other) (sym (latest_missing some row read (λ same. false≢true (sym other ∙ (bytes_eq-Decides (parent_at (parents_of place rows) number) parent).1 (its ∙ same)))))
