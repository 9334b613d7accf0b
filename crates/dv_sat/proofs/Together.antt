-- Elements that stand together in a list: those that are neither before nor behind.
use Rattle.dv_sat.proofs.Vocabulary.{AllWithin, Bool, Contains, Contains-append_left, Equal, Greater, IsNonDecreasingBy, IsPartitionPoint, IsPartitionedBy, IsSortedBy, IsStrictlySortedBy, IsTotalOrder, Less, Less-from_sorted, List, Ordering, ap, append-nil, arith, drop, false, false≢true, filter}
use Rattle.dv_sat.proofs.Vocabulary.{filter-all, filter-append, filter-none, get_or, get_or-drop, get_or-take, is_gt, is_lt, length, length-drop, length-take-le, not, ordering_index, ordering_reverse, ordering_then, refl, rules, searchable_from_sorted, subst, sym, take, take-append-drop, true, ℕ}
use Rattle.dv_sat.proofs.Vocabulary.{◌++◌, ◌+◌, ◌<◌, ◌∙◌, ◌≡◌, ◌≤◌}

module _ {X : Type 0} (P : X → Type 0) (xs : List X) (n : ℕ) where
  among_first : n ≤ length xs → AllWithin P xs 0 n → (x : X) → Contains (take n xs) x → P x
  among_first fits all x (k, under, there) =
      let low : k < n = omega (arith, rw (length-take-le n xs fits) at under) in
      subst P (sym (get_or-take n xs k x low) ∙ there) (all k x (omega arith) low)

  among_rest : AllWithin P xs n (length xs) → (x : X) → Contains (drop n xs) x → P x
  among_rest all x (k, under, there) =
      let low : n + k < length xs = omega (arith, rw (length-drop n xs) at under) in
      subst P (sym (get_or-drop n xs k x) ∙ there) (all (n + k) x (omega arith) low)

-- what two searches find: the elements that are not before, and of these those up to the last that is not behind
module _ {X : Type 0} (before behind passes : X → Bool) (xs rest : List X) (start end : ℕ) (is : rest ≡ drop start xs) where
  pub run_is : start ≤ length xs → IsPartitionPoint (λ x. before x ≡ true) (λ x. before x ≡ false) xs start
      → end ≤ length rest → IsPartitionPoint (λ x. not (behind x) ≡ true) (λ x. not (behind x) ≡ false) rest end
      → ((x : X) → before x ≡ true → passes x ≡ false) → ((x : X) → before x ≡ false → not (behind x) ≡ true → passes x ≡ true) → ((x : X) → not (behind x) ≡ false → passes x ≡ false)
      → take end rest ≡ filter passes xs
  run_is starts first ends second none_before all_here none_behind =
      let front = filter-none passes (take start xs) (λ x has. none_before x (among_first (λ x. before x ≡ true) xs start starts first.0 x has)) in
      let back = filter-none passes (drop end rest) (λ x has. none_behind x (among_rest (λ x. not (behind x) ≡ false) rest end second.1 x has)) in
      let here = filter-all passes (take end rest) (λ x has.
      all_here x (among_rest (λ x. before x ≡ false) xs start first.1 x (subst (λ all. Contains all x) (take-append-drop end rest ∙ is) (Contains-append_left (take end rest) (drop end rest) x has)))
      (among_first (λ x. not (behind x) ≡ true) rest end ends second.0 x has)) in
      sym (ap (filter passes) (sym (take-append-drop start xs)) ∙ filter-append passes (take start xs) (drop start xs) ∙ ap (λ some. some ++ filter passes (drop start xs)) front
      ∙ ap (filter passes) (sym is ∙ sym (take-append-drop end rest)) ∙ filter-append passes (take end rest) (drop end rest) ∙ ap (λ some. filter passes (take end rest) ++ some) back
      ∙ append-nil (filter passes (take end rest)) ∙ here)

-- a test that no element passes behind one that fails it does the same among the last ones
pub parted_rest : {X : Type 0} (p : X → Bool) (xs rest : List X) (n : ℕ) → rest ≡ drop n xs → IsPartitionedBy p xs → IsPartitionedBy p rest
parted_rest p xs rest n is parted i j d le under passes =
    let low : n + j < length xs = omega (arith, rw (is, length-drop n xs) at under) in
    rw (is, get_or-drop n xs i d) (parted (n + i) (n + j) d (omega (arith, le)) low (rw (is, get_or-drop n xs j d) at passes))

-- ---- by an order of keys

less_before : (a b : Ordering) → ordering_index a ≤ ordering_index b → is_lt b ≡ true → is_lt a ≡ true
less_before Less b le is = search (rules)
less_before Equal Less le is = absurd (omega (arith, le))
less_before Equal Equal le is = is
less_before Equal Greater le is = absurd (false≢true is)
less_before Greater Less le is = absurd (omega (arith, le))
less_before Greater Equal le is = is
less_before Greater Greater le is = is

greater_behind : (a b : Ordering) → ordering_index a ≤ ordering_index b → not (is_gt b) ≡ true → not (is_gt a) ≡ true
greater_behind Less b le is = search (rules)
greater_behind Equal b le is = search (rules)
greater_behind Greater Less le is = absurd (omega (arith, le))
greater_behind Greater Equal le is = absurd (omega (arith, le))
greater_behind Greater Greater le is = is

module _ {X K : Type 0} {cmp : K → K → Ordering} (total : IsTotalOrder cmp) (key : X → K) (xs : List X) where
  -- elements that ascend by an order that asks the keys first
  pub sorted_by_key : (order : X → X → Ordering) → ((a b : X) → order a b ≡ Less → is_lt (cmp (key b) (key a)) ≡ false) → IsStrictlySortedBy order xs → IsSortedBy (λ a b. is_lt (cmp (key a) (key b))) xs
  sorted_by_key order keeps up k d low under = keeps (get_or xs k d) (get_or xs (k + 1) d) (Less-from_sorted order xs k (k + 1) d up (omega arith) under)

  module _ (at : K) (order : IsSortedBy (λ a b. is_lt (cmp (key a) (key b))) xs) where
    rises : IsNonDecreasingBy (λ x. ordering_index (cmp (key x) at)) xs
    rises = searchable_from_sorted total key xs at order

    pub before_first : IsPartitionedBy (λ x. is_lt (cmp (key x) at)) xs
    before_first i j d le under is = less_before _ _ (rises i j d le under) is

    pub behind_last : IsPartitionedBy (λ x. not (is_gt (cmp (key x) at))) xs
    behind_last i j d le under is = greater_behind _ _ (rises i j d le under) is

-- what is less by a key, and then by more, is not greater by the key
pub not_less : {K : Type 0} {cmp : K → K → Ordering} → IsTotalOrder cmp → (a b : K) (more : Ordering) → ordering_then (cmp a b) more ≡ Less → is_lt (cmp b a) ≡ false
not_less {K} {cmp} total a b more less = rw (total.antisymm b a) (by (cmp a b) less)
  where
    by : (o : Ordering) → ordering_then o more ≡ Less → is_lt (ordering_reverse o) ≡ false
    by Less e = refl
    by Equal e = refl
    by Greater e = cc

-- a test that tells what ties, of what is less, of what ties, and of what is greater
pub unlike_less : (o : Ordering) (same : Bool) → (same ≡ true → o ≡ Equal) → is_lt o ≡ true → same ≡ false
unlike_less o false ties less = refl
unlike_less o true ties less = let tie = ties refl in cc

pub alike_tied : (o : Ordering) (same : Bool) → (o ≡ Equal → same ≡ true) → is_lt o ≡ false → not (is_gt o) ≡ true → same ≡ true
alike_tied Less same tied less greater = cc
alike_tied Equal same tied less greater = tied refl
alike_tied Greater same tied less greater = cc

pub unlike_greater : (o : Ordering) (same : Bool) → (same ≡ true → o ≡ Equal) → not (is_gt o) ≡ false → same ≡ false
unlike_greater o false ties greater = refl
unlike_greater o true ties greater = let tie = ties refl in cc
