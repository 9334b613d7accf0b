-- The row before another one of its parent in an index is the last one of the parent before it.
use Rattle.dv_index.proofs.Vocabulary.{AllPairs, AllPairs-from_IsDistinct, Bool, Decides-eqb, Equal, Greater, IsDistinct-IsPermutation, IsDistinct-from_AllPairs, IsIndex, Less, List, None, Ordering, Place, Some, [], arith, bytes_eq, bytes_eq-Decides, cases_lt, false}
use Rattle.dv_index.proofs.Vocabulary.{false_from_ne_true, false≢true, get_or, get_or-map, get_or-range_with_len, get_or-take, get_or_default, inl, inr, is_lt, last_of, length, length-map, length-range_with_len, length-take-le, nat_cmp, nat_list_cmp_total, nat_tests, ordering_then}
use Rattle.dv_index.proofs.Vocabulary.{parent_at, parents_of, range_with_len, refl, row_before, slice_get, slice_get-get_or, sym, take, text_cmp, text_cmp-IsAntisymmetric, true, turned, ℕ, ◌-◌, ◌<◌, ◌==◌, ◌∙◌, ◌≡◌, ◌≤◌, ◌⊎◌}
use Rattle.dv_index.proofs.{LastFound.last_none, LastFound.last_found, Latest.same_cmp, Order.in_order, Order.le_from_not_lt, Order.number_there, Order.within}

-- ---- each number once

range_distinct : (n : ℕ) → AllPairs (λ x y. x ≡ y → ⊥) (range_with_len 0 n)
range_distinct n i j d before under =
    let long = length-range_with_len 0 n in
    rw (get_or-range_with_len 0 n i d (omega arith), get_or-range_with_len 0 n j d (omega arith)) (λ same. omega arith)

flips : (x y : ℕ) → (x == y) ≡ (y == x)
flips x y = grind (arith, nat_tests)

distinct : (parents : List (List ℕ)) (index : List ℕ) → IsIndex parents index → AllPairs (λ x y. x ≡ y → ⊥) index
distinct parents index is =
    AllPairs-from_IsDistinct Decides-eqb index
    (IsDistinct-IsPermutation _ flips (range_with_len 0 (length parents)) index is.each
    (IsDistinct-from_AllPairs Decides-eqb (range_with_len 0 (length parents)) (range_distinct (length parents))))

-- ---- the row before

module _ {X : Type 0} (place : X → Place) (rows : List X) (index : List ℕ) (is : IsIndex (parents_of place rows) index) (p : ℕ) (under : p < length index) (row : X) (read : row ≡ get_or rows (get_or index p 0) row) where
  abbrev number : ℕ
  number = get_or index p 0

  inside : number < length rows
  inside = rw length-map at (within (parents_of place rows) index is p 0 under)

  abbrev before : List X
  before = take number rows

  long : length before ≡ number
  long = length-take-le number rows (omega (arith, inside))

  abbrev own : X → Bool
  own other = bytes_eq (place other).parent (place row).parent

  parent_is : (j : ℕ) (d : X) → j < length rows → parent_at (parents_of place rows) j ≡ (place (get_or rows j d)).parent
  parent_is j d small = get_or-map (λ row. (place row).parent) rows j d _ small

  its_parent : parent_at (parents_of place rows) number ≡ (place row).parent
  its_parent = rw (sym read) at (parent_is number row inside)

  -- a row of the parent that stands before the row stands before it in the index
  stands : (j : ℕ) (d : X) → j < number → own (get_or before j d) ≡ true → (parent_at (parents_of place rows) j ≡ (place row).parent) × (k : ℕ) × (k < p) × (get_or index k 0 ≡ j)
  stands j d first pass =
      let small : j < length rows = omega (arith, inside) in
      let there : own (get_or rows j d) ≡ true = rw (get_or-take number rows j d first) at pass in
      let same : parent_at (parents_of place rows) j ≡ (place row).parent = parent_is j d small ∙ (bytes_eq-Decides (place (get_or rows j d)).parent (place row).parent).0 there in
      let (k, in_index, found) = number_there (parents_of place rows) index is j (rw length-map small) in
      let here : get_or index k 0 ≡ j = get_or_default index k 0 j in_index ∙ found in
      elim (cases_lt k p) [
        | inl earlier ↦ (same, k, earlier, here)
        | inr later ↦
            let ordered = rw here at (in_order (parents_of place rows) index is p k 0 later in_index) in
            let tied = same_cmp (parent_at (parents_of place rows) j) (parent_at (parents_of place rows) number) (same ∙ sym its_parent) in
            let back : number ≤ j = le_from_not_lt number j (rw tied at ordered) in
            absurd (omega arith)
      ]

  none_at_start : p ≡ 0 → last_of place before (place row).parent ≡ None
  none_at_start none = last_none own before (λ j d small. false_from_ne_true (own (get_or before j d)) (λ pass. let (same, k, earlier, here) = stands j d (omega (arith, long)) pass in omega arith))

  module _ (some : 0 < p) (other : X) (there : other ≡ get_or rows (get_or index (p - 1) 0) other) where
    abbrev last : ℕ
    last = get_or index (p - 1) 0

    last_inside : last < length rows
    last_inside = rw length-map at (within (parents_of place rows) index is (p - 1) 0 (omega arith))

    last_parent : parent_at (parents_of place rows) last ≡ (place other).parent
    last_parent = rw (sym there) at (parent_is last other last_inside)

    last_first : (place other).parent ≡ (place row).parent → last < number
    last_first same =
        let ordered = in_order (parents_of place rows) index is (p - 1) p 0 (omega arith) under in
        let tied = same_cmp (parent_at (parents_of place rows) number) (parent_at (parents_of place rows) last) (its_parent ∙ sym same ∙ sym last_parent) in
        let low : last ≤ number = le_from_not_lt last number (rw tied at ordered) in
        let apart = distinct (parents_of place rows) index is (p - 1) p 0 (omega arith) under in
        by (cases_lt last number) low apart
      where
        by : (last < number) ⊎ (number ≤ last) → last ≤ number → (last ≡ number → ⊥) → last < number
        by (inl less) low apart = less
        by (inr high) low apart = absurd (apart (omega arith))

    last_found_before : (place other).parent ≡ (place row).parent → last_of place before (place row).parent ≡ Some other
    last_found_before same =
        let first = last_first same in
        let is_other : get_or before last other ≡ other = get_or-take number rows last other first ∙ sym there in
        let pass : own (get_or before last other) ≡ true = rw is_other ((bytes_eq-Decides (place other).parent (place row).parent).1 same) in
        rw is_other at (last_found own before last other (omega (arith, long)) pass later)
      where
        later : (j : ℕ) (e : X) → last < j → j < length before → own (get_or before j e) ≡ false
        later j e behind small = false_from_ne_true (own (get_or before j e)) (λ pass.
            let (its, k, earlier, here) = stands j e (omega (arith, long)) pass in
            let ordered = rw here at (in_order (parents_of place rows) index is k (p - 1) 0 (omega arith) (omega arith)) in
            let tied = same_cmp (parent_at (parents_of place rows) last) (parent_at (parents_of place rows) j) (last_parent ∙ same ∙ sym its) in
            let back : j ≤ last = le_from_not_lt j last (rw tied at ordered) in
            omega arith)

    last_missing_before : ((place other).parent ≡ (place row).parent → ⊥) → last_of place before (place row).parent ≡ None
    last_missing_before differs = last_none own before (λ j d small. false_from_ne_true (own (get_or before j d)) (λ pass.
        let (its, k, earlier, here) = stands j d (omega (arith, long)) pass in
        let ordered = rw here at (in_order (parents_of place rows) index is k (p - 1) 0 (omega arith) (omega arith)) in
        let next = in_order (parents_of place rows) index is (p - 1) p 0 (omega arith) under in
        by (text_cmp (place other).parent (place row).parent) refl (nat_cmp last j) (rw (last_parent, its) at ordered) (rw (its_parent, last_parent) at next)))
      where
        by : (r : Ordering) → text_cmp (place other).parent (place row).parent ≡ r → (n : Ordering) → is_lt (ordering_then (text_cmp (place other).parent (place row).parent) n) ≡ false
            → is_lt (ordering_then (text_cmp (place row).parent (place other).parent) (nat_cmp number last)) ≡ false → ⊥
        by Less e n ordered next = false≢true (sym (rw e at ordered))
        by Equal e n ordered next = differs (text_cmp-IsAntisymmetric (place other).parent (place row).parent e)
        by Greater e n ordered next =
            let back : text_cmp (place row).parent (place other).parent ≡ Less = turned nat_list_cmp_total (place other).parent (place row).parent e in
            false≢true (sym (rw back at next))

  -- the row before it in the index, if it is of the parent, is the last one of the parent before it
  pub before_is : row_before place rows index (place row).parent p ≡ last_of place (take (get_or index p 0) rows) (place row).parent
  before_is = by (cases_lt 0 p)
    where
      by : (0 < p) ⊎ (p ≤ 0) → row_before place rows index (place row).parent p ≡ last_of place before (place row).parent
      by (inr none) =
          let start : p ≡ 0 = omega arith in
          rw (none_at_start start, start) refl
      by (inl some) = at_row (bytes_eq (parent_at (parents_of place rows) (get_or index (p - 1) 0)) (place row).parent) refl
        where
          last : ℕ
          last = get_or index (p - 1) 0

          small : last < length rows
          small = rw length-map at (within (parents_of place rows) index is (p - 1) 0 (omega arith))

          other : X
          other = get_or rows last row

          there : slice_get rows last ≡ Some other
          there = slice_get-get_or rows last row small

          itself : other ≡ get_or rows last other
          itself = get_or_default rows last row other small

          its : parent_at (parents_of place rows) last ≡ (place other).parent
          its = get_or-map (λ row. (place row).parent) rows last row [] small

          counted : (p == 0) ≡ false
          counted = grind (arith, nat_tests)

          at_row : (b : Bool) → bytes_eq (parent_at (parents_of place rows) last) (place row).parent ≡ b → row_before place rows index (place row).parent p ≡ last_of place before (place row).parent
          at_row true same = rw (counted, same, there) (sym (last_found_before some other itself (sym its ∙ (bytes_eq-Decides (parent_at (parents_of place rows) last) (place row).parent).0 same)))
          at_row false differs = rw (counted, differs) (sym (last_missing_before some other itself (λ same. false≢true (sym differs ∙ (bytes_eq-Decides (parent_at (parents_of place rows) last) (place row).parent).1 (its ∙ same)))))

-- ---- the least number that doesn't fit

-- among the first numbers of an index
pub record IsLeast (fits : ℕ → Bool) (rows : ℕ) (index : List ℕ) (count least : ℕ) : Type 0 where
  pub low : least ≤ rows
  pub below : (k : ℕ) → k < count → fits (get_or index k 0) ≡ false → least ≤ get_or index k 0
  pub unfit : least < rows → fits least ≡ false

-- all before it fit
pub least_fit : (parents : List (List ℕ)) (index : List ℕ) (is : IsIndex parents index) (fits : ℕ → Bool) (count least : ℕ) → IsLeast fits (length parents) index count least → length index ≤ count
    → (k : ℕ) → k < least → fits k ≡ true
least_fit parents index is fits count least all whole k under = by (fits k) refl
  where
    by : (b : Bool) → fits k ≡ b → fits k ≡ true
    by true e = e
    by false e =
        let (j, inside, found) = number_there parents index is k (omega (arith, all.low)) in
        let here : get_or index j 0 ≡ k = get_or_default index j 0 k inside ∙ found in
        let low = all.below j (omega arith) (rw here e) in
        absurd (omega (arith, here))
