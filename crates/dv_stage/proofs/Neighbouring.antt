-- Neighbours that pass a test, and what they say of a list in order.
use Rattle.dv_stage.proofs.Vocabulary.{Bool, Contains, Equal, IsStrictlySortedBy, IsTotalOrder, Less, Less-from_sorted, List, None, Ordering, Some, [], ap, arith, asymmetric, both_ways, cases_eq, cases_order, cond, drop, drop_got, false, first_neighbour, get_or, get_or_default, inl, inr, length}
use Rattle.dv_stage.proofs.Vocabulary.{length-drop, less_equal, ordering_then, refl, same_Some, slice_get_read, subst, suc, sym, then_less, tied_back, true, zero, ℕ, ◌+◌, ◌-◌, ◌<◌, ◌∙◌, ◌∷◌, ◌≡◌, ◌≤◌, ◌⊎◌}

module _ {X : Type 0} (test : X → X → Bool) where
  -- a loop's step, at the places h and i
  pub neighbour_found : (xs : List X) (h i : ℕ) (a b : X) → i ≡ h + 1 → i < length xs → a ≡ get_or xs h a → b ≡ get_or xs i b → test a b ≡ true → first_neighbour test (drop h xs) ≡ Some a
  neighbour_found xs h i a b is under at next e =
      rw (drop_got xs h a (slice_get_read xs (length xs) h a refl (omega arith) at), ← is, drop_got xs i b (slice_get_read xs (length xs) i b refl under next), e) refl

  pub neighbour_passed : (xs : List X) (h i k : ℕ) (a b : X) → i ≡ h + 1 → k ≡ i → i < length xs → a ≡ get_or xs h a → b ≡ get_or xs i b → test a b ≡ false
      → first_neighbour test (drop h xs) ≡ first_neighbour test (drop k xs)
  neighbour_passed xs h i k a b is same under at next e =
      rw (same, drop_got xs h a (slice_get_read xs (length xs) h a refl (omega arith) at), ← is, drop_got xs i b (slice_get_read xs (length xs) i b refl under next), e) refl

  few : (xs : List X) → length xs ≤ 1 → first_neighbour test xs ≡ None
  few [] le = refl
  few (x ∷ []) le = refl
  few (x ∷ y ∷ rest) le = absurd (omega arith)

  pub neighbour_end : (xs : List X) (i : ℕ) → length xs ≤ i + 1 → first_neighbour test (drop i xs) ≡ None
  neighbour_end xs i le = few (drop i xs) (omega (arith, length-drop i xs, le))

  -- no two neighbours before a place pass
  abbrev FailBefore : List X → ℕ → Type 0
  FailBefore xs n = (k : ℕ) (d : X) → k < n → test (get_or xs k d) (get_or xs (suc k) d) ≡ false

  -- the place of the first that passes
  pub record IsFirstNeighbour (xs : List X) (x : X) : Type 0 where
    pub place : ℕ
    pub inside : suc place < length xs
    pub there : (d : X) → get_or xs place d ≡ x
    pub passes : (d : X) → test x (get_or xs (suc place) d) ≡ true
    pub before : FailBefore xs place

  fails_next : (x y : X) (rest : List X) (n : ℕ) → test x y ≡ false → FailBefore (y ∷ rest) n → FailBefore (x ∷ y ∷ rest) (suc n)
  fails_next x y rest n fails later zero d under = fails
  fails_next x y rest n fails later (suc k) d under = later k d (omega arith)

  pub first_neighbour-is : (xs : List X) (x : X) → first_neighbour test xs ≡ Some x → IsFirstNeighbour xs x
  first_neighbour-is [] x e = cc
  first_neighbour-is (y ∷ []) x e = cc
  first_neighbour-is (y ∷ z ∷ rest) x e = by (test y z) refl e (first_neighbour-is (z ∷ rest) x)
    where
      by : (b : Bool) → test y z ≡ b → cond b (Some y) (first_neighbour test (z ∷ rest)) ≡ Some x → (first_neighbour test (z ∷ rest) ≡ Some x → IsFirstNeighbour (z ∷ rest) x) → IsFirstNeighbour (y ∷ z ∷ rest) x
      by true t e later =
          let same : y ≡ x = same_Some y x e in
          record { place = 0; inside = omega arith; there = λ d. same; passes = λ d. rw (← same) t; before = λ k d under. absurd (omega arith) }
      by false t e later =
          let f = later e in
          record { place = suc f.place; inside = omega (arith, f.inside); there = f.there; passes = f.passes; before = fails_next y z rest f.place t f.before }

  pub none_neighbour : (xs : List X) → first_neighbour test xs ≡ None → FailBefore xs (length xs - 1)
  none_neighbour [] e k d under = absurd (omega arith)
  none_neighbour (x ∷ []) e k d under = absurd (omega arith)
  none_neighbour (x ∷ y ∷ rest) e k d under = by (test x y) refl e (none_neighbour (y ∷ rest))
    where
      by : (b : Bool) → test x y ≡ b → cond b (Some x) (first_neighbour test (y ∷ rest)) ≡ None → (first_neighbour test (y ∷ rest) ≡ None → FailBefore (y ∷ rest) (length (y ∷ rest) - 1))
          → test (get_or (x ∷ y ∷ rest) k d) (get_or (y ∷ rest) k d) ≡ false
      by true t e later = cc
      by false t e later = fails_next x y rest (length rest) t (λ j c small. later e j c (omega arith)) k d (omega arith)

  -- in a list in order, let an item that passes with a later one pass with each between
  module _ (R : X → X → Ordering) (between : (a b c : X) → R a b ≡ Less → R b c ≡ Less → test a c ≡ true → test a b ≡ true) where
    -- so an item that passes with a later one passes with its next one
    pub passes_next : (xs : List X) (i j : ℕ) (a b : X) → IsStrictlySortedBy R xs → i < j → j < length xs → get_or xs i a ≡ a → get_or xs j b ≡ b → test a b ≡ true → test (get_or xs i a) (get_or xs (suc i) a) ≡ true
    passes_next xs i j a b up before inside at_a at_b passes =
        let pair : test (get_or xs i a) (get_or xs j a) ≡ true = (λ t. test (at_a t) ((get_or_default xs j a b inside ∙ at_b) t)) ∙ passes in
        elim (cases_eq (suc i) j) [
          | inl same ↦ subst (λ k. test (get_or xs i a) (get_or xs k a) ≡ true) (sym same) pair
          | inr other ↦ between _ _ _ (Less-from_sorted R xs i (suc i) a up (omega arith) (omega (arith, other))) (Less-from_sorted R xs (suc i) j a up (omega (arith, other)) inside) pair
        ]

    pub none_pass : (xs : List X) (i j : ℕ) (a b : X) → IsStrictlySortedBy R xs → first_neighbour test xs ≡ None → i < j → j < length xs → get_or xs i a ≡ a → get_or xs j b ≡ b → test a b ≡ true → ⊥
    none_pass xs i j a b up none before inside at_a at_b passes =
        both_ways _ (none_neighbour xs none i a (omega arith)) (passes_next xs i j a b up before inside at_a at_b passes)

-- two members are one, or one stands before the other
pub by_places : {X G : Type 0} (xs : List X) (a b : X) → Contains xs a → Contains xs b → (a ≡ b → G) → ((i j : ℕ) → i < j → j < length xs → get_or xs i a ≡ a → get_or xs j b ≡ b → G)
    → ((i j : ℕ) → i < j → j < length xs → get_or xs i b ≡ b → get_or xs j a ≡ a → G) → G
by_places xs a b (i, i_in, at_a) (j, j_in, at_b) same before behind =
    elim (cases_order i j) [
      | inl e ↦ same (sym at_a ∙ get_or_default xs i a b i_in ∙ (ap (λ k. get_or xs k b) e ∙ at_b))
      | inr (inl lt) ↦ before i j lt j_in at_a at_b
      | inr (inr gt) ↦ behind j i gt i_in at_b at_a
    ]

-- what is before another by one order and then a second, and not behind it by the first, ties with it by the first
pub tied : {X : Type 0} {R : X → X → Ordering} → IsTotalOrder R → (x y : X) (s t : Ordering) → ordering_then (R x y) s ≡ Less → ordering_then (R y x) t ≡ Less
    → (R x y ≡ Equal) × (s ≡ Less) × (t ≡ Less)
tied {R = R} o x y s t before behind = by (then_less (R x y) s before) (then_less (R y x) t behind)
  where
    by : (R x y ≡ Less) ⊎ ((R x y ≡ Equal) × (s ≡ Less)) → (R y x ≡ Less) ⊎ ((R y x ≡ Equal) × (t ≡ Less)) → (R x y ≡ Equal) × (s ≡ Less) × (t ≡ Less)
    by (inl less) (inl back) = absurd (asymmetric o x y less back)
    by (inl less) (inr (tie, _)) = absurd (less_equal (R x y) less (tied_back o y x tie))
    by (inr (tie, _)) (inl back) = absurd (less_equal (R y x) back (tied_back o x y tie))
    by (inr (tie, first)) (inr (_, second)) = (tie, first, second)
