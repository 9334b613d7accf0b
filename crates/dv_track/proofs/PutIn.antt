-- Digests merged into an ascending list that has none of them.
use Rattle.dv_track.proofs.Vocabulary.{AllPairs-from_IsDistinct, Bool, Contains, Contains-append_cases, Contains-cons_here, Contains-cons_there, Contains-permutation, Equal, Greater, IsDistinct, IsDistinct-IsPermutation, IsPermutation, IsPermutation-sym, IsSorted, IsStrictWeakOrder}
use Rattle.dv_track.proofs.Vocabulary.{IsStrictlySortedBy, IsStrictlySortedBy-filter, Less, List, Ordering, [], all_members, arith, bytes_eq, bytes_eq-Decides, digest_cmp, false, false≢true, filter, filtered_members, get_or, inl, inr, is_among, is_lt, length, member_of_all, missing_in}
use Rattle.dv_track.proofs.Vocabulary.{nat_list_cmp_total, nat_list_eq_equiv, not, ranks_by, refl, sorted_by, sorted_by-members, sorted_from_all_adjacent, subst, sym, turned, ℕ, ◌++◌, ◌+◌, ◌<◌, ◌∙◌, ◌∷◌, ◌≡◌}
use Rattle.dv_track.proofs.Amongst.{apart, exact, is_among-Decides, sorted_from_strictly, unequal}

abbrev pub digest_lt : List ℕ → List ℕ → Bool
digest_lt a b = is_lt (digest_cmp a b)

pub digest_order : IsStrictWeakOrder digest_lt
digest_order = ranks_by nat_list_cmp_total (λ digest. digest)

-- an ascending list has each digest once
distinct : (digests : List (List ℕ)) → IsStrictlySortedBy digest_cmp digests → IsDistinct bytes_eq digests
unfolding IsStrictlySortedBy IsDistinct
distinct [] up = tt
distinct (x ∷ digests) up = (all_members (λ y. bytes_eq x y ≡ false) digests (λ y has. unequal x y (apart x y (member_of_all (λ y. digest_cmp x y ≡ Less) digests y up.0 has))), distinct digests up.1)

distinct_both : (xs ys : List (List ℕ)) → IsDistinct bytes_eq xs → IsDistinct bytes_eq ys → ((z : List ℕ) → Contains xs z → Contains ys z → ⊥) → IsDistinct bytes_eq (xs ++ ys)
unfolding IsDistinct
distinct_both [] ys dx dy none = dy
distinct_both (x ∷ xs) ys dx dy none = (
  all_members (λ y. bytes_eq x y ≡ false) (xs ++ ys) (λ y has.
      elim (Contains-append_cases xs ys y has) [
        | inl first ↦ member_of_all (λ y. bytes_eq x y ≡ false) xs y dx.0 first
        | inr second ↦ unequal x y (λ same. none x (Contains-cons_here x xs) (subst (Contains ys) (sym same) second))
      ]),
  distinct_both xs ys dx.1 dy (λ z in_xs in_ys. none z (Contains-cons_there x xs z in_xs) in_ys),
)

-- and one in order with each digest once ascends
ascends : (digests : List (List ℕ)) → IsSorted digest_cmp digests → IsDistinct bytes_eq digests → IsStrictlySortedBy digest_cmp digests
ascends digests up once = sorted_from_all_adjacent nat_list_cmp_total digests [] (λ k under. by k under (digest_cmp (get_or digests k []) (get_or digests (k + 1) [])) refl)
  where
    by : (k : ℕ) → k + 1 < length digests → (r : Ordering) → digest_cmp (get_or digests k []) (get_or digests (k + 1) []) ≡ r → r ≡ Less
    by k under Less e = refl
    by k under Equal e = absurd (AllPairs-from_IsDistinct bytes_eq-Decides digests once k (k + 1) [] (omega arith) under (exact (get_or digests k []) (get_or digests (k + 1) []) e))
    by k under Greater e = absurd (false≢true (sym (up k [] (omega arith) under) ∙ rw (turned nat_list_cmp_total (get_or digests k []) (get_or digests (k + 1) []) e) refl))

module _ (passes : List ℕ → Bool) (present touched : List (List ℕ)) (up : IsStrictlySortedBy digest_cmp present) (vp : IsStrictlySortedBy digest_cmp touched) where
  abbrev kept : List (List ℕ)
  kept = missing_in touched present

  abbrev new : List (List ℕ)
  new = filter passes touched

  kept_ascend : IsStrictlySortedBy digest_cmp kept
  kept_ascend = IsStrictlySortedBy-filter digest_cmp (λ digest. not (is_among touched digest)) present up

  new_ascend : IsStrictlySortedBy digest_cmp new
  new_ascend = IsStrictlySortedBy-filter digest_cmp passes touched vp

  -- so both can be merged
  pub both_sorted : IsSorted digest_cmp kept × IsSorted digest_cmp new
  both_sorted = (sorted_from_strictly nat_list_cmp_total kept kept_ascend, sorted_from_strictly nat_list_cmp_total new new_ascend)

  none_in_both : (z : List ℕ) → Contains kept z → Contains new z → ⊥
  none_in_both z in_kept in_new =
      let missing = ((filtered_members (λ digest. not (is_among touched digest)) present z).0 in_kept).1 in
      let there = (is_among-Decides touched z).1 ((filtered_members passes touched z).0 in_new).0 in
      false≢true (rw there at missing)

  -- what is merged is what both have, in order
  pub merged : (made : List (List ℕ)) → IsPermutation (kept ++ new) made → IsSorted digest_cmp made → made ≡ sorted_by digest_cmp (kept ++ new)
  merged made each order =
      sorted_by-members nat_list_cmp_total exact (kept ++ new) made
      (ascends made order (IsDistinct-IsPermutation bytes_eq nat_list_eq_equiv.symm (kept ++ new) made each (distinct_both kept new (distinct kept kept_ascend) (distinct new new_ascend) none_in_both)))
      (λ x. (Contains-permutation made (kept ++ new) x (IsPermutation-sym (kept ++ new) made each), Contains-permutation (kept ++ new) made x each))
