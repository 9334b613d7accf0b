-- A binary search among numbers in order finds one exactly where it is among them.
use Rattle.dv_store_rules.proofs.Vocabulary.{Contains, Err, IsBinarySearchResult, IsSorted, List, MatchResult, Ok, Result, arith, cases_lt, eq-eqb, eqb-true, false, false_from_ne_true, get_or, get_or_default, has_number, inl, inr, is_lt, is_ok, le_from_not_lt, length, list_any_at, nat_cmp}
use Rattle.dv_store_rules.proofs.Vocabulary.{nat_cmp_total, none_pass, ranks_by, searched, sorted_far, sym, ℕ, ◌<◌, ◌==◌, ◌∙◌, ◌≡◌, ◌≤◌}

other_number : (n x : ℕ) → (n ≡ x → ⊥) → (n == x) ≡ false
other_number n x differs = false_from_ne_true (n == x) (λ same. differs (eqb-true n x same))

pub looked_up : (xs : List ℕ) (x : ℕ) (r : Result ℕ ℕ) → IsBinarySearchResult (λ y. nat_cmp y x) xs r → IsSorted nat_cmp xs → is_ok r ≡ has_number xs x
looked_up xs x r found sorted = by r (searched xs x r found rising)
  where
    rising : (i j : ℕ) → i ≤ j → j < length xs → get_or xs i 0 ≤ get_or xs j 0
    rising i j le under = le_from_not_lt (get_or xs i 0) (get_or xs j 0) (sorted_far (λ a b. is_lt (nat_cmp a b)) (ranks_by nat_cmp_total (λ i. i)) xs sorted i j 0 le under)

    by : (r : Result ℕ ℕ)
        → MatchResult r (λ i. (i < length xs) × (get_or xs i 0 ≡ x)) (λ i. (i ≤ length xs) × ((k : ℕ) → k < i → get_or xs k 0 < x) × ((k : ℕ) → i ≤ k → k < length xs → x < get_or xs k 0))
        → is_ok r ≡ has_number xs x
    by (Ok i) (under, is) = sym (list_any_at (λ n. n == x) xs i 0 under (eq-eqb (get_or xs i 0) x is))
    by (Err i) (within, below, above) = sym (none_pass (λ n. n == x) xs other)
      where
        other : (n : ℕ) → Contains xs n → (n == x) ≡ false
        other n (k, under, there) =
            let here : get_or xs k 0 ≡ n = get_or_default xs k 0 n under ∙ there in
            elim (cases_lt k i) [
              | inl before ↦ let less = below k before in other_number n x (λ same. omega (arith, less, here, same))
              | inr behind ↦ let more = above k behind under in other_number n x (λ same. omega (arith, more, here, same))
            ]
