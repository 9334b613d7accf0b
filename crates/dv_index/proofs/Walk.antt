-- The rows that a walk over an index finds are the latest ones of each parent.
use Rattle.dv_index.proofs.Vocabulary.{Bool, Contains, Contains-range, Equal, Greater, IsIndex, IsPartitionPoint, IsPartitionedBy, IsStrictlySortedBy, IsStrictlySortedBy-filter_map, Less, List, None, Option, Ordering, Place, Some, [], all_members, and_from, and_parts, ap, are_in_load_order}
use Rattle.dv_index.proofs.Vocabulary.{arith, ascending-sorted_by, bytes_eq, bytes_eq-Decides, false, false_from_ne_true, false≢true, filter_map, filter_map-append, filter_map_member, found_member, get_or, get_or-map, get_or-range_with_len, get_or_default, get_or_from_slice_get, if◌then◌else◌}
use Rattle.dv_index.proofs.Vocabulary.{is_last, is_reached, is_reached_if, last_row, latest_at, latest_of_each, length, length-map, length-range_with_len, loads_of, member_after_sort, member_of_filter_map, nat_le, nat_list_cmp_total, none-some, not, not-true, not_from_false, on_total}
use Rattle.dv_index.proofs.Vocabulary.{option_to_list, parent_at, parents_of, prefix_len, prefix_len-le-length, prefix_len_passes, prefix_len_stops, range_with_len, refl, reverse, same_Some, same_ascending, slice_get, slice_get-get_or, slice_get_within, sorted_by, subst, suc, sym, text_cmp}
use Rattle.dv_index.proofs.Vocabulary.{text_cmp-IsAntisymmetric, true, turned, zero, ℕ, ◌&&◌, ◌++◌, ◌+◌, ◌-◌, ◌<◌, ◌∙◌, ◌≡◌, ◌≤◌}
use Rattle.dv_index.proofs.{Latest.latest_at_start, Latest.latest_found, Latest.latest_missing, Order.in_order, Order.reached_first, Order.within, Ranges.range_more}

-- one more place
pub walk_more : {X : Type 0} (h : ℕ → Option X) (k : ℕ) (o : Option X) → h k ≡ o → filter_map h (range_with_len 0 (k + 1)) ≡ filter_map h (range_with_len 0 k) ++ option_to_list o
walk_more h k None e = rw (range_more 0 k (k + 1) k refl (omega arith), filter_map-append, e) refl
walk_more h k (Some x) e = rw (range_more 0 k (k + 1) k refl (omega arith), filter_map-append, e) refl

in_range : (a n k : ℕ) → Contains (range_with_len a n) k → (a ≤ k) × (k < a + n)
in_range a n k (i, under, there) =
    let small : i < n = (let long = length-range_with_len a n in omega arith) in
    let is : a + i ≡ k = sym (get_or-range_with_len a n i k small) ∙ there in
    (omega arith, omega arith)

-- what is found place by place ascends, where that of each place is before that of each later one
ascending_walk : {X : Type 0} (R : X → X → Ordering) (h : ℕ → Option X) (limit : ℕ) → ((j k : ℕ) (x y : X) → j < k → k < limit → h j ≡ Some x → h k ≡ Some y → R x y ≡ Less)
    → (n a : ℕ) → a + n ≤ limit → IsStrictlySortedBy R (filter_map h (range_with_len a n))
unfolding IsStrictlySortedBy
ascending_walk R h limit less zero a le = tt
ascending_walk {X} R h limit less (suc n) a le = by (h a) refl (ascending_walk R h limit less n (a + 1) (omega arith))
  where
    by : (o : Option X) → h a ≡ o → IsStrictlySortedBy R (filter_map h (range_with_len (a + 1) n)) → IsStrictlySortedBy R (filter_map h (range_with_len a (suc n)))
    by None e rest = rw e rest
    by (Some x) e rest =
        rw e (
          all_members (λ y. R x y ≡ Less) (filter_map h (range_with_len (a + 1) n)) (λ y has.
              let (k, member, is) = filter_map_member h (range_with_len (a + 1) n) y has in
              let bounds = in_range (a + 1) n k member in
              less a k x y (omega arith) (omega arith) e is),
          rest,
        )

chosen : {X : Type 0} (b : Bool) (o : Option X) (x : X) → (if b then o else None) ≡ Some x → (b ≡ true) × (o ≡ Some x)
chosen true o x e = (refl, e)
chosen false o x e = cc

module _ {X : Type 0} (place : X → Place) (rows : List X) (index : List ℕ) (is : IsIndex (parents_of place rows) index) (order : are_in_load_order place rows ≡ true) (date : ℕ) where
  abbrev reaches : List ℕ → ℕ → Bool
  reaches parent number = is_reached (parents_of place rows) (loads_of place rows) parent date number

  -- the parent of the row at a place
  abbrev parent_of : ℕ → List ℕ
  parent_of k = parent_at (parents_of place rows) (get_or index k 0)

  -- the parts of a row that is found at a place
  record FoundAt (k : ℕ) (row : X) : Type 0 where
    inside : k < length index
    read : row ≡ get_or rows (get_or index k 0) row
    of_parent : (place row).parent ≡ parent_of k
    reached : reaches (parent_of k) (get_or index k 0) ≡ true
    next : (d : ℕ) → k + 1 < length index → reaches (parent_of k) (get_or index (k + 1) d) ≡ false

  found_at : (k : ℕ) (row : X) → k < length index → last_row place rows index date k ≡ Some row → FoundAt k row
  found_at k row inside e =
      let (last, there) = chosen (is_last (parents_of place rows) (loads_of place rows) index date k) _ row e in
      let (reached, not_next) = and_parts (reaches (parent_of k) (get_or index k 0)) _ last in
      let stops = not-true (is_reached_if (parents_of place rows) (loads_of place rows) (parent_of k) date (slice_get index (k + 1))) not_next in
      let read = get_or_from_slice_get rows (get_or index k 0) row row there in
      let small = slice_get_within rows (get_or index k 0) row there in
      record {
        inside = inside;
        read = sym read;
        of_parent = sym (get_or-map (λ row. (place row).parent) rows (get_or index k 0) row [] small ∙ ap (λ (r : X). (place r).parent) read);
        reached = reached;
        next = λ d under. rw (slice_get-get_or index (k + 1) d under) at stops;
      }

  -- it is the latest one of its parent
  latest_there : (k : ℕ) (row : X) → FoundAt k row → latest_at place rows (parent_of k) date ≡ Some row
  latest_there k row f =
      latest_found place rows index is (parent_of k) date (k + 1) (omega (arith, f.inside)) (before, after) (omega arith) row read f.of_parent
    where
      parted : IsPartitionedBy (reaches (parent_of k)) index
      parted = reached_first place rows index is order (parent_of k) date

      before : (i : ℕ) (d : ℕ) → 0 ≤ i → i < k + 1 → reaches (parent_of k) (get_or index i d) ≡ true
      before i d le under = parted i k d (omega arith) f.inside (rw (get_or_default index k d 0 f.inside) f.reached)

      after : (i : ℕ) (d : ℕ) → k + 1 ≤ i → i < length index → reaches (parent_of k) (get_or index i d) ≡ false
      after i d le under = false_from_ne_true (reaches (parent_of k) (get_or index i d)) (λ e. false≢true (sym (f.next d (omega arith)) ∙ parted (k + 1) i d le under e))

      read : row ≡ get_or rows (get_or index (k + 1 - 1) 0) row
      read = let same : k + 1 - 1 ≡ k = omega arith in rw same f.read

  -- of two places the later one's row is of a greater parent
  greater_parent : (j k : ℕ) (x y : X) → j < k → FoundAt j x → FoundAt k y → text_cmp (place x).parent (place y).parent ≡ Less
  greater_parent j k x y before f g = rw (f.of_parent, g.of_parent) (by (text_cmp (parent_of j) (parent_of k)) refl)
    where
      by : (r : Ordering) → text_cmp (parent_of j) (parent_of k) ≡ r → text_cmp (parent_of j) (parent_of k) ≡ Less
      by Less e = e
      by Equal e =
          let same : parent_of j ≡ parent_of k = text_cmp-IsAntisymmetric (parent_of j) (parent_of k) e in
          let reached : reaches (parent_of j) (get_or index k 0) ≡ true = rw same g.reached in
          let parted = reached_first place rows index is order (parent_of j) date in
          absurd (false≢true (sym (f.next 0 (omega (arith, g.inside))) ∙ parted (j + 1) k 0 (omega arith) g.inside reached))
      by Greater e =
          let back : text_cmp (parent_of k) (parent_of j) ≡ Less = turned nat_list_cmp_total (parent_of j) (parent_of k) e in
          absurd (false≢true (sym (rw back at (in_order (parents_of place rows) index is j k 0 (omega arith) g.inside))))

  -- what is the latest one of a parent is found at a place
  module _ (parent : List ℕ) (row : X) (e : latest_at place rows parent date ≡ Some row) where
    parted : IsPartitionedBy (reaches parent) index
    parted = reached_first place rows index is order parent date

    place_of : (n : ℕ) → prefix_len (reaches parent) index ≡ n → (k : ℕ) × (k < length index) × (last_row place rows index date k ≡ Some row)
    place_of n counted = decide n refl
      where
        bound : n ≤ length index
        bound = rw (← counted) (prefix_len-le-length (reaches parent) index)

        point : IsPartitionPoint (λ number. reaches parent number ≡ true) (λ number. reaches parent number ≡ false) index n
        point = (
          λ i d le under. prefix_len_passes (reaches parent) index i d (rw counted under),
          λ i d le under. false_from_ne_true (reaches parent (get_or index i d)) (λ reached.
              false≢true (sym (rw counted at (prefix_len_stops (reaches parent) index d (rw counted (omega arith)))) ∙ parted n i d le under reached)),
        )

        decide : (m : ℕ) → n ≡ m → (k : ℕ) × (k < length index) × (last_row place rows index date k ≡ Some row)
        decide zero none = absurd (none-some row (sym (latest_at_start place rows index is parent date n bound point none) ∙ e))
        decide (suc k) some = at_place (bytes_eq (place found).parent parent) refl
          where
            small : n - 1 ≡ k
            small = omega arith

            inside : k < length index
            inside = omega (arith, bound)

            number_inside : get_or index k 0 < length rows
            number_inside = rw length-map at (within (parents_of place rows) index is k 0 inside)

            found : X
            found = get_or rows (get_or index k 0) row

            read : found ≡ get_or rows (get_or index (n - 1) 0) found
            read = rw small (get_or_default rows (get_or index k 0) row found number_inside)

            stops : (o : Option ℕ) → slice_get index (k + 1) ≡ o → is_reached_if (parents_of place rows) (loads_of place rows) parent date (slice_get index (k + 1)) ≡ false
            stops None none = rw none refl
            stops (Some number) there =
                let under = slice_get_within index (k + 1) number there in
                rw (there, ← (get_or_from_slice_get index (k + 1) number number there)) (point.1 (k + 1) number (omega arith) under)

            at_place : (b : Bool) → bytes_eq (place found).parent parent ≡ b → (k : ℕ) × (k < length index) × (last_row place rows index date k ≡ Some row)
            at_place false other =
                absurd (none-some row (sym (latest_missing place rows index is parent date n bound point (omega arith) found read (λ same. false≢true (sym other ∙ (bytes_eq-Decides (place found).parent parent).1 same))) ∙ e))
            at_place true equal =
                let own : (place found).parent ≡ parent = (bytes_eq-Decides (place found).parent parent).0 equal in
                let same : found ≡ row = same_Some found row (sym (latest_found place rows index is parent date n bound point (omega arith) found read own) ∙ e) in
                let its : parent_of k ≡ parent = get_or-map (λ row. (place row).parent) rows (get_or index k 0) row [] number_inside ∙ own in
                let last : is_last (parents_of place rows) (loads_of place rows) index date k ≡ true =
                subst (λ q. (reaches q (get_or index k 0) && not (is_reached_if (parents_of place rows) (loads_of place rows) q date (slice_get index (k + 1)))) ≡ true) (sym its)
                (and_from _ _ (point.0 k 0 (omega arith) (omega arith)) (not_from_false _ (stops (slice_get index (k + 1)) refl))) in
                (k, inside, rw (last, slice_get-get_or rows (get_or index k 0) row number_inside) (ap Some same))

  abbrev by_parent : X → X → Ordering
  by_parent a b = text_cmp (place a).parent (place b).parent

  pub walk_is : filter_map (last_row place rows index date) (range_with_len 0 (length index)) ≡ latest_of_each place rows date
  walk_is =
      same_ascending by_parent (on_total (λ row. (place row).parent) nat_list_cmp_total) _ _
      (ascending_walk by_parent (last_row place rows index date) (length index) (λ j k x y before under f g. greater_parent j k x y before (found_at j x (omega arith) f) (found_at k y under g)) (length index) 0 (omega arith))
      (IsStrictlySortedBy-filter_map text_cmp (λ parent. latest_at place rows parent date) (λ row. (place row).parent) own
      (sorted_by text_cmp (parents_of place rows)) (ascending-sorted_by text_cmp nat_list_cmp_total (parents_of place rows)))
      there back
    where
      own : (parent : List ℕ) (row : X) → latest_at place rows parent date ≡ Some row → (place row).parent ≡ parent
      own parent row e = (bytes_eq-Decides (place row).parent parent).0 (and_parts _ (nat_le (place row).load date) (found_member (λ row. bytes_eq (place row).parent parent && nat_le (place row).load date) (reverse rows) row e).1).0

      there : (row : X) → Contains (filter_map (last_row place rows index date) (range_with_len 0 (length index))) row → Contains (latest_of_each place rows date) row
      there row has =
          let (k, member, gives) = filter_map_member (last_row place rows index date) (range_with_len 0 (length index)) row has in
          let f = found_at k row (omega (arith, (in_range 0 (length index) k member).1)) gives in
          let small = within (parents_of place rows) index is k 0 f.inside in
          let among : Contains (parents_of place rows) (parent_of k) = (get_or index k 0, small, get_or_default (parents_of place rows) (get_or index k 0) (parent_of k) [] small) in
          member_of_filter_map (λ parent. latest_at place rows parent date) (sorted_by text_cmp (parents_of place rows)) (parent_of k) row
          (member_after_sort text_cmp (parents_of place rows) (parent_of k) (λ x member e. text_cmp-IsAntisymmetric x (parent_of k) e) among)
          (latest_there k row f)

      back : (row : X) → Contains (latest_of_each place rows date) row → Contains (filter_map (last_row place rows index date) (range_with_len 0 (length index))) row
      back row has =
          let (parent, member, e) = filter_map_member (λ parent. latest_at place rows parent date) (sorted_by text_cmp (parents_of place rows)) row has in
          let (k, under, gives) = place_of parent row e _ refl in
          member_of_filter_map (last_row place rows index date) (range_with_len 0 (length index)) k row (Contains-range (length index) k under) gives
