-- A stable sort, of whose result the first of those that tie are kept.
use Rattle.dv_text.proofs.Vocabulary.{Bool, Contains, Equal, Equal-is, Greater, IsEquivalence, IsSorted, IsStable, IsStrictlySortedBy-dedup, IsTotalOrder, Less, List, Ordering, Some, [], ap, cond, dedup, dedup_from, eq_by_cmp, eq_by_cmp_equiv, false, false≢true, find, inl, inr, insert_by, is_eq}
use Rattle.dv_text.proofs.Vocabulary.{is_lt, map, not, ordering_reverse, refl, rules, slice_get, sorted_by, subst, sym, ties, true, ◌&&◌, ◌∙◌, ◌∷◌, ◌≡◌}
use Rattle.dv_text.proofs.{Members.Contains-nil, Passing.find_same, Passing.find-filter, SortedLists.ascending-sorted_by, SortedLists.inserted_cases, SortedLists.inserted_here, SortedLists.inserted_there, SortedLists.one_of_ties, SortedLists.same_ascending, SortedLists.sorted_by-sorted}

-- neither is less
pub alike : (r : Ordering) → (not (is_lt r) && not (is_lt (ordering_reverse r))) ≡ is_eq r
alike Less = refl
alike Equal = refl
alike Greater = refl

module _ {X : Type 0} {R : X → X → Ordering} (o : IsTotalOrder R) where
  same : IsEquivalence (eq_by_cmp R)
  same = eq_by_cmp_equiv o

  ties_eq : (a b : X) → ties (λ x y. is_lt (R x y)) a b ≡ eq_by_cmp R a b
  ties_eq a b = ap (λ r. not (is_lt (R a b)) && not (is_lt r)) (o.antisymm b a) ∙ alike (R a b)

  -- a member of a sorted list is the first with which it ties
  pub sorted-first : (xs : List X) (z : X) → Contains (sorted_by R xs) z → find (eq_by_cmp R z) xs ≡ Some z
  sorted-first [] z has = Contains-nil z has
  sorted-first (x ∷ xs) z has = by (sorted-first xs z) (eq_by_cmp R z x) refl
    where
      by : (Contains (sorted_by R xs) z → find (eq_by_cmp R z) xs ≡ Some z) → (b : Bool) → eq_by_cmp R z x ≡ b → find (eq_by_cmp R z) (x ∷ xs) ≡ Some z
      by later true t =
          let first = one_of_ties o (sorted_by R (x ∷ xs)) (ascending-sorted_by R o (x ∷ xs)) z x has (inserted_here R x (sorted_by R xs)) ((Equal-is (R z x)).0 t) in
          rw t (ap (λ y. Some y) (sym first))
      by later false t =
          rw t
          (elim (inserted_cases R x (sorted_by R xs) z has) [
            | inl first ↦ absurd (false≢true (sym t ∙ ap (eq_by_cmp R z) first ∙ same.refl z))
            | inr rest ↦ later rest
          ])

  -- and the other way round
  pub first-sorted : (xs : List X) (z : X) → find (eq_by_cmp R z) xs ≡ Some z → Contains (sorted_by R xs) z
  first-sorted [] z e = cc
  first-sorted (x ∷ xs) z e = by (first-sorted xs z) (eq_by_cmp R z x) refl
    where
      by : (find (eq_by_cmp R z) xs ≡ Some z → Contains (sorted_by R xs) z) → (b : Bool) → eq_by_cmp R z x ≡ b → Contains (sorted_by R (x ∷ xs)) z
      by later true t =
          let found : Some x ≡ Some z = rw t at e in
          let first : x ≡ z = cc in
          subst (Contains (insert_by R x (sorted_by R xs))) first (inserted_here R x (sorted_by R xs))
      by later false t =
          inserted_there R x (sorted_by R xs) z
          (λ tie. absurd (false≢true (sym t ∙ same.symm z x ∙ ap is_eq tie)))
          (later (rw t at e))

  -- lists with the same first of each that tie are one list in order
  pub same_firsts : (xs ys : List X) → ((z : X) → find (eq_by_cmp R z) xs ≡ find (eq_by_cmp R z) ys) → sorted_by R xs ≡ sorted_by R ys
  same_firsts xs ys firsts =
      same_ascending R o (sorted_by R xs) (sorted_by R ys) (ascending-sorted_by R o xs) (ascending-sorted_by R o ys)
      (λ z has. first-sorted ys z (sym (firsts z) ∙ sorted-first xs z has))
      (λ z has. first-sorted xs z (firsts z ∙ sorted-first ys z has))

  stable_firsts : (xs ys : List X) → IsStable R xs ys → (z : X) → find (eq_by_cmp R z) ys ≡ find (eq_by_cmp R z) xs
  stable_firsts xs ys stable z =
      let test : (x : X) → ties (λ x y. is_lt (R x y)) z x ≡ eq_by_cmp R z x = ties_eq z in
      find_same _ _ ys (λ x has. sym (test x))
      ∙ find-filter (ties (λ x y. is_lt (R x y)) z) ys ∙ ap (λ all. slice_get all 0) (stable z)
      ∙ sym (find-filter (ties (λ x y. is_lt (R x y)) z) xs) ∙ find_same _ _ xs (λ x has. test x)

  module _ {E : X → X → Bool} (agrees : (x y : X) → E x y ≡ eq_by_cmp R x y) where
    -- what is left out ties with what stands before it
    left_out : (z k x : X) → E x k ≡ true → eq_by_cmp R z x ≡ eq_by_cmp R z k
    left_out z k x t = same.symm z x ∙ same.congr x k z (sym (agrees x k) ∙ t) ∙ same.symm k z

    find-dedup_from : (z k : X) (xs : List X) → find (eq_by_cmp R z) (dedup_from E k xs) ≡ find (eq_by_cmp R z) (k ∷ xs)
    find-dedup_from z k [] = refl
    find-dedup_from z k (x ∷ xs) = by (E x k) refl (find-dedup_from z k xs) (find-dedup_from z x xs)
      where
        by : (b : Bool) → E x k ≡ b → find (eq_by_cmp R z) (dedup_from E k xs) ≡ find (eq_by_cmp R z) (k ∷ xs)
            → find (eq_by_cmp R z) (dedup_from E x xs) ≡ find (eq_by_cmp R z) (x ∷ xs)
            → find (eq_by_cmp R z) (dedup_from E k (x ∷ xs)) ≡ find (eq_by_cmp R z) (k ∷ x ∷ xs)
        by true t first next = rw t (first ∙ twice (eq_by_cmp R z k) (left_out z k x t))
          where
            twice : (b : Bool) → eq_by_cmp R z x ≡ b → cond b (Some k) (find (eq_by_cmp R z) xs) ≡ cond b (Some k) (find (eq_by_cmp R z) (x ∷ xs))
            twice true e = refl
            twice false e = rw e refl
        by false t first next = rw t (ap (λ rest. cond (eq_by_cmp R z k) (Some k) rest) next)

    find-dedup : (z : X) (xs : List X) → find (eq_by_cmp R z) (dedup E xs) ≡ find (eq_by_cmp R z) xs
    find-dedup z [] = refl
    find-dedup z (x ∷ xs) = find-dedup_from z x xs

    -- of a stable sort's result the first of those that tie are the items in order, each once
    pub firsts-sort_dedup : (items sorted : List X) → IsSorted R sorted → IsStable R items sorted → dedup E sorted ≡ sorted_by R items
    firsts-sort_dedup items sorted up stable =
        sym (sorted_by-sorted R (dedup E sorted) (IsStrictlySortedBy-dedup o agrees sorted up))
        ∙ same_firsts (dedup E sorted) items (λ z. find-dedup z sorted ∙ stable_firsts items sorted stable z)

-- ---- a list that is made of another

insert_by-map : {X Y : Type 0} (R : Y → Y → Ordering) (f : X → Y) (x : X) (xs : List X) → insert_by R (f x) (map f xs) ≡ map f (insert_by (λ a b. R (f a) (f b)) x xs)
insert_by-map R f x [] = refl
insert_by-map {X} {Y} R f x (y ∷ ys) = search (rules, insert_by-map R f x ys)

pub sorted_by-map : {X Y : Type 0} (R : Y → Y → Ordering) (f : X → Y) (xs : List X) → sorted_by R (map f xs) ≡ map f (sorted_by (λ a b. R (f a) (f b)) xs)
sorted_by-map R f [] = refl
sorted_by-map R f (x ∷ xs) = ap (insert_by R (f x)) (sorted_by-map R f xs) ∙ insert_by-map R f x (sorted_by (λ a b. R (f a) (f b)) xs)
