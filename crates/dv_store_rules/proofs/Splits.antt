-- What stands before an item of a list, where the list is parted there.
use Rattle.dv_store_rules.proofs.Vocabulary.{Contains, Contains-append_left, Contains-append_right, Contains-cons_cases, Contains-cons_here, Contains-cons_there, Contains-nil, IsStrictlySortedBy, Less, List, None, Option, Ordering, Some, [], ap, inl, inr, last_or, lt-ltb, member_of_all, nat_lt}
use Rattle.dv_store_rules.proofs.Vocabulary.{option_map_or, refl, rules, subst, sym, true, ℕ, ◌++◌, ◌<◌, ◌∷◌, ◌≡◌, ◌⊎◌}

-- ---- a list that is parted

module _ {X : Type 0} where
  -- an empty list has no item
  pub no_split : (before : List X) (x : X) (after : List X) → [] ≡ before ++ x ∷ after → ⊥
  no_split [] x after e = cc
  no_split (first ∷ before) x after e = cc

  -- an item of two lists, one behind the other, stands in the first one, or behind the whole of it
  pub split_append : (xs ys before : List X) (x : X) (after : List X) → xs ++ ys ≡ before ++ x ∷ after
      → ((rest : List X) × (xs ≡ before ++ x ∷ rest)) ⊎ ((rest : List X) × (before ≡ xs ++ rest) × (ys ≡ rest ++ x ∷ after))
  split_append [] ys before x after e = inr (before, refl, e)
  split_append (first ∷ xs) ys [] x after e = let same : first ≡ x = cc in inl (xs, ap (λ y. y ∷ xs) same)
  split_append (first ∷ xs) ys (other ∷ before) x after e =
      let same : first ≡ other = cc in
      let later : xs ++ ys ≡ before ++ x ∷ after = cc in
      elim (split_append xs ys before x after later) [
        | inl found ↦ inl (found.0, λ i. same i ∷ found.1 i)
        | inr found ↦ inr (found.0, λ i. sym same i ∷ found.1 i, found.2)
      ]

  -- the item is in the list
  pub item_in : (before : List X) (x : X) (after : List X) → Contains (before ++ x ∷ after) x
  item_in before x after = Contains-append_right before (x ∷ after) x (Contains-cons_here x after)

  -- a list is parted at each of its items
  pub parted_at : (xs : List X) (x : X) → Contains xs x → (before : List X) × (after : List X) × (xs ≡ before ++ x ∷ after)
  parted_at [] x has = Contains-nil x has
  parted_at (first ∷ xs) x has =
      elim (Contains-cons_cases first xs x has) [
        | inl same ↦ ([], xs, ap (λ y. y ∷ xs) same)
        | inr rest ↦ let (before, after, is) = parted_at xs x rest in (first ∷ before, after, ap (λ l. first ∷ l) is)
      ]

  -- the items of the first of two lists stand before one that the first list hasn't
  pub stands_before : (xs ys before : List X) (x : X) (after : List X) → xs ++ ys ≡ before ++ x ∷ after → (Contains xs x → ⊥) → (y : X) → Contains xs y → Contains before y
  stands_before xs ys before x after e out y has =
      elim (split_append xs ys before x after e) [
        | inl found ↦ absurd (out (subst (λ l. Contains l x) (sym found.1) (item_in before x found.0)))
        | inr found ↦ subst (λ l. Contains l y) (sym found.1) (Contains-append_left xs found.0 y has)
      ]

  -- in a list in order, what stands before an item is less
  pub less_before : (cmp : X → X → Ordering) (before : List X) (x : X) (after : List X) → IsStrictlySortedBy cmp (before ++ x ∷ after) → (y : X) → Contains before y → cmp y x ≡ Less
  unfolding IsStrictlySortedBy
  less_before cmp [] x after up y has = Contains-nil y has
  less_before cmp (first ∷ before) x after up y has =
      elim (Contains-cons_cases first before y has) [
        | inl same ↦ subst (λ z. cmp z x ≡ Less) same (member_of_all (λ z. cmp first z ≡ Less) (before ++ x ∷ after) x up.0 (item_in before x after))
        | inr rest ↦ less_before cmp before x after up.1 y rest
      ]

  -- ---- the last item

  last_cases : (xs : List X) (o : Option X) (x : X) → last_or o xs ≡ Some x → (o ≡ Some x) ⊎ Contains xs x
  last_cases [] o x e = inl e
  last_cases (first ∷ xs) o x e = search (rules, Contains-cons_here, Contains-cons_there, last_cases xs (Some first) x)

  -- the last item is one of the list
  pub last_in : (xs : List X) (x : X) → last_or None xs ≡ Some x → Contains xs x
  last_in xs x e = elim (last_cases xs None x e) [
    | inl is ↦ cc
    | inr has ↦ has
  ]

-- a number behind others is more than the last of them
pub last_less : (numbers : List ℕ) (n : ℕ) → ((earlier : ℕ) → Contains numbers earlier → earlier < n) → option_map_or (λ last. nat_lt last n) (last_or None numbers) true ≡ true
last_less numbers n each = by (last_or None numbers) refl
  where
    by : (o : Option ℕ) → last_or None numbers ≡ o → option_map_or (λ last. nat_lt last n) o true ≡ true
    by None e = refl
    by (Some last) e = lt-ltb last n (each last (last_in numbers last e))
