-- The laws of `sorted_by`.
use Rattle.dv_text.proofs.Vocabulary.{AllByRecursion, Contains, Contains-append_cases, Equal, Greater, IsAntisymmetric, IsStrictlySortedBy, IsTotalOrder, Less, Less-from_sorted, List, Ordering, [], ap, arith, cases_order, get_or, get_or_default, inl, inr, insert_by, length, refl, rules}
use Rattle.dv_text.proofs.Vocabulary.{sorted_by, subst, suc, sym, ℕ, ◌++◌, ◌<◌, ◌↔◌, ◌∙◌, ◌∷◌, ◌≡◌, ◌≤◌, ◌⊎◌}
use Rattle.dv_text.proofs.{Members.all_members, Members.all_more, Members.Contains-cons_here, Members.Contains-cons_there, Members.Contains-cons_cases, Members.member_of_all, Orderings.asymmetric, Orderings.irreflexive, Orderings.less_equal, Orderings.turned}

-- ---- lists in order

-- an earlier item is less than a later one
ascending_at : {X : Type 0} (R : X → X → Ordering) (xs : List X) (i j : ℕ) (a b : X) → IsStrictlySortedBy R xs → get_or xs i a ≡ a → get_or xs j b ≡ b → j < length xs → i < j → R a b ≡ Less
ascending_at R xs i j a b up at_a at_b inside before = sym (λ t. R (at_a t) ((get_or_default xs j a b inside ∙ at_b) t)) ∙ Less-from_sorted R xs i j a up before inside

-- of a list in order no two members tie
pub one_of_ties : {X : Type 0} {R : X → X → Ordering} → IsTotalOrder R → (xs : List X) → IsStrictlySortedBy R xs → (a b : X) → Contains xs a → Contains xs b → R a b ≡ Equal → a ≡ b
one_of_ties {R = R} o xs up a b (i, i_in, at_a) (j, j_in, at_b) e = search (rules, cases_order, get_or_default, less_equal, ascending_at)

-- two lists in order, the second behind the first
pub ascending-append : {X : Type 0} (R : X → X → Ordering) (xs ys : List X) → IsStrictlySortedBy R xs → IsStrictlySortedBy R ys → ((x y : X) → Contains xs x → Contains ys y → R x y ≡ Less) → IsStrictlySortedBy R (xs ++ ys)
unfolding IsStrictlySortedBy
ascending-append R [] ys up vp less = vp
ascending-append R (x ∷ xs) ys up vp less = (
  all_members (λ y. R x y ≡ Less) (xs ++ ys) (λ y has.
      elim (Contains-append_cases xs ys y has) [
        | inl first ↦ member_of_all (λ y. R x y ≡ Less) xs y up.0 first
        | inr second ↦ less x y (Contains-cons_here x xs) second
      ]),
  ascending-append R xs ys up.1 vp (λ a b a_in b_in. less a b (Contains-cons_there x xs a a_in) b_in),
)

-- the order changes only where two are compared otherwise
pub ascending-same : {X : Type 0} (R S : X → X → Ordering) (xs : List X) → ((x y : X) → Contains xs x → Contains xs y → R x y ≡ S x y) → IsStrictlySortedBy R xs → IsStrictlySortedBy S xs
unfolding IsStrictlySortedBy
ascending-same R S [] same up = tt
ascending-same R S (x ∷ xs) same up = (
  all_members (λ y. S x y ≡ Less) xs (λ y has. sym (same x y (Contains-cons_here x xs) (Contains-cons_there x xs y has)) ∙ member_of_all (λ y. R x y ≡ Less) xs y up.0 has),
  ascending-same R S xs (λ a b a_in b_in. same a b (Contains-cons_there x xs a a_in) (Contains-cons_there x xs b b_in)) up.1,
)

-- ---- an item in its place

module _ {X : Type 0} (R : X → X → Ordering) where
  all_insert : (P : X → Type 0) (x : X) (ys : List X) → P x → AllByRecursion P ys → AllByRecursion P (insert_by R x ys)
  all_insert P x [] p all = (p, tt)
  all_insert P x (y ∷ ys) p all = search (rules, all_insert P x ys p all.1)

  pub inserted_cases : (x : X) (ys : List X) (z : X) → Contains (insert_by R x ys) z → (x ≡ z) ⊎ Contains ys z
  inserted_cases x [] z has = Contains-cons_cases x [] z has
  inserted_cases x (y ∷ ys) z has = search (rules, Contains-cons_cases, Contains-cons_there, Contains-cons_here, inserted_cases x ys z)

  pub inserted_here : (x : X) (ys : List X) → Contains (insert_by R x ys) x
  inserted_here x [] = Contains-cons_here x []
  inserted_here x (y ∷ ys) = by (inserted_here x ys) (R x y) refl
    where
      by : Contains (insert_by R x ys) x → (r : Ordering) → R x y ≡ r → Contains (insert_by R x (y ∷ ys)) x
      by later Less e = rw e (Contains-cons_here x (y ∷ ys))
      by later Equal e = rw e (Contains-cons_here x ys)
      by later Greater e = rw e (Contains-cons_there y (insert_by R x ys) x later)

  pub inserted_there : (x : X) (ys : List X) (z : X) → (R x z ≡ Equal → x ≡ z) → Contains ys z → Contains (insert_by R x ys) z
  inserted_there x [] z exact (k, under, there) = absurd (omega arith)
  inserted_there x (y ∷ ys) z exact has = by (inserted_there x ys z exact) (R x y) refl (Contains-cons_cases y ys z has)
    where
      by : (Contains ys z → Contains (insert_by R x ys) z) → (r : Ordering) → R x y ≡ r → (y ≡ z) ⊎ Contains ys z → Contains (insert_by R x (y ∷ ys)) z
      by later Less e cases = rw e (Contains-cons_there x (y ∷ ys) z has)
      by later Equal e (inl same) =
          let is : x ≡ z = exact (ap (R x) (sym same) ∙ e) in
          rw e (subst (Contains (x ∷ ys)) is (Contains-cons_here x ys))
      by later Equal e (inr rest) = rw e (Contains-cons_there x ys z rest)
      by later Greater e (inl same) = rw e (subst (Contains (y ∷ insert_by R x ys)) same (Contains-cons_here y (insert_by R x ys)))
      by later Greater e (inr rest) = rw e (Contains-cons_there y (insert_by R x ys) z (later rest))

  -- no member is new
  pub member_before_sort : (xs : List X) (z : X) → Contains (sorted_by R xs) z → Contains xs z
  member_before_sort [] z has = has
  member_before_sort (x ∷ xs) z has =
      elim (inserted_cases x (sorted_by R xs) z has) [
        | inl same ↦ subst (Contains (x ∷ xs)) same (Contains-cons_here x xs)
        | inr rest ↦ Contains-cons_there x xs z (member_before_sort xs z rest)
      ]

  -- and none is lost, where only equal ones tie
  pub member_after_sort : (xs : List X) (z : X) → ((x : X) → Contains xs x → R x z ≡ Equal → x ≡ z) → Contains xs z → Contains (sorted_by R xs) z
  member_after_sort [] z exact has = has
  member_after_sort (x ∷ xs) z exact has =
      elim (Contains-cons_cases x xs z has) [
        | inl same ↦ subst (Contains (insert_by R x (sorted_by R xs))) same (inserted_here x (sorted_by R xs))
        | inr rest ↦
            inserted_there x (sorted_by R xs) z (exact x (Contains-cons_here x xs)) (
            member_after_sort xs z (λ y member. exact y (Contains-cons_there x xs y member)) rest)
      ]

  -- a list in order stays
  pub sorted_by-sorted : (xs : List X) → IsStrictlySortedBy R xs → sorted_by R xs ≡ xs
  unfolding IsStrictlySortedBy
  sorted_by-sorted [] up = refl
  sorted_by-sorted (x ∷ []) up = refl
  sorted_by-sorted (x ∷ y ∷ xs) up = rw (sorted_by-sorted (y ∷ xs) up.1, up.0.0)

  -- a sort makes no list longer
  length-insert_by : (x : X) (ys : List X) → length (insert_by R x ys) ≤ suc (length ys)
  length-insert_by x [] = omega arith
  length-insert_by x (y ∷ ys) = search (rules, length-insert_by x ys)

  pub length-sorted_by : (xs : List X) → length (sorted_by R xs) ≤ length xs
  length-sorted_by [] = omega arith
  length-sorted_by (x ∷ xs) = omega (arith, length-sorted_by xs, length-insert_by x (sorted_by R xs))

  module _ (o : IsTotalOrder R) where
    ascending-insert : (x : X) (ys : List X) → IsStrictlySortedBy R ys → IsStrictlySortedBy R (insert_by R x ys)
    unfolding IsStrictlySortedBy
    ascending-insert x [] up = (tt, tt)
    ascending-insert x (y ∷ ys) up = by (ascending-insert x ys up.1) (R x y) refl
      where
        by : IsStrictlySortedBy R (insert_by R x ys) → (r : Ordering) → R x y ≡ r → IsStrictlySortedBy R (insert_by R x (y ∷ ys))
        by later Less e = rw e ((e, all_more (λ z. R y z ≡ Less) (λ z. R x z ≡ Less) (λ z l. o.trans x y z e l) ys up.0), up)
        by later Equal e = rw e (all_more (λ z. R y z ≡ Less) (λ z. R x z ≡ Less) (λ z l. o.congr x y z e ∙ l) ys up.0, up.1)
        by later Greater e = rw e (all_insert (λ z. R y z ≡ Less) x ys (turned o x y e) up.0, later)

    -- the items stand in order, each once
    pub ascending-sorted_by : (xs : List X) → IsStrictlySortedBy R (sorted_by R xs)
    unfolding IsStrictlySortedBy
    ascending-sorted_by [] = tt
    ascending-sorted_by (x ∷ xs) = ascending-insert x (sorted_by R xs) (ascending-sorted_by xs)

    -- two lists in order with the same members are one
    pub same_ascending : (xs ys : List X) → IsStrictlySortedBy R xs → IsStrictlySortedBy R ys → ((z : X) → Contains xs z → Contains ys z) → ((z : X) → Contains ys z → Contains xs z) → xs ≡ ys
    unfolding IsStrictlySortedBy
    same_ascending [] [] up vp f g = refl
    same_ascending [] (y ∷ ys) up vp f g = let (k, under, there) = g y (Contains-cons_here y ys) in absurd (omega arith)
    same_ascending (x ∷ xs) [] up vp f g = let (k, under, there) = f x (Contains-cons_here x xs) in absurd (omega arith)
    same_ascending (x ∷ xs) (y ∷ ys) up vp f g =
        let head : x ≡ y =
        elim (Contains-cons_cases y ys x (f x (Contains-cons_here x xs))) [
          | inl same ↦ sym same
          | inr in_ys ↦
              elim (Contains-cons_cases x xs y (g y (Contains-cons_here y ys))) [
                | inl same ↦ same
                | inr in_xs ↦ absurd (asymmetric o x y (member_of_all (λ z. R x z ≡ Less) xs y up.0 in_xs) (member_of_all (λ z. R y z ≡ Less) ys x vp.0 in_ys))
              ]
        ] in
        let there : (z : X) → Contains xs z → Contains ys z = λ z member.
        elim (Contains-cons_cases y ys z (f z (Contains-cons_there x xs z member))) [
          | inl same ↦ absurd (irreflexive o x (ap (R x) (head ∙ same) ∙ member_of_all (λ w. R x w ≡ Less) xs z up.0 member))
          | inr rest ↦ rest
        ] in
        let back : (z : X) → Contains ys z → Contains xs z = λ z member.
        elim (Contains-cons_cases x xs z (g z (Contains-cons_there y ys z member))) [
          | inl same ↦ absurd (irreflexive o y (ap (R y) (sym head ∙ same) ∙ member_of_all (λ w. R y w ≡ Less) ys z vp.0 member))
          | inr rest ↦ rest
        ] in
        let rest : xs ≡ ys = same_ascending xs ys up.1 vp.1 there back in
        λ i. head i ∷ rest i

-- a list in order with the items' members is the items sorted
pub sorted_by-members : {X : Type 0} {R : X → X → Ordering} → IsTotalOrder R → IsAntisymmetric R → (items kept : List X) → IsStrictlySortedBy R kept → ((x : X) → Contains kept x ↔ Contains items x) → kept ≡ sorted_by R items
sorted_by-members {R = R} o exact items kept up members =
    same_ascending R o kept (sorted_by R items) up (ascending-sorted_by R o items)
    (λ z has. member_after_sort R items z (λ x member e. exact x z e) ((members z).0 has))
    (λ z has. (members z).1 (member_before_sort R items z has))

-- ---- of one item or none

pub few_sorted : {X : Type 0} (R : X → X → Ordering) (xs : List X) → length xs ≤ 1 → sorted_by R xs ≡ xs
few_sorted R [] few = refl
few_sorted R (x ∷ []) few = refl
few_sorted R (x ∷ y ∷ xs) few = absurd (omega arith)

pub few_ascend : {X : Type 0} (R : X → X → Ordering) (xs : List X) → length xs ≤ 1 → IsStrictlySortedBy R xs
unfolding IsStrictlySortedBy
few_ascend R [] few = tt
few_ascend R (x ∷ []) few = (tt, tt)
few_ascend R (x ∷ y ∷ xs) few = absurd (omega arith)
