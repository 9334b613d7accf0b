-- The last item of a list that passes a test.
use Rattle.dv_index.proofs.Vocabulary.{Bool, List, None, Some, [], arith, false, find, find-append, get_or, length, option_or, refl, reverse, reverse-append, suc, true, zero, ℕ, ◌<◌, ◌∷◌, ◌≡◌}

module _ {X : Type 0} (p : X → Bool) where
  -- the last one is that of the rest, and else the first item
  last-cons : (x : X) (xs : List X) → find p (reverse (x ∷ xs)) ≡ option_or (find p (reverse xs)) (find p (x ∷ []))
  last-cons x xs = rw (reverse-append (x ∷ []) xs) (find-append p (reverse xs) (x ∷ []))

  -- there is none where none passes
  pub last_none : (xs : List X) → ((j : ℕ) (d : X) → j < length xs → p (get_or xs j d) ≡ false) → find p (reverse xs) ≡ None
  last_none [] fails = refl
  last_none (x ∷ xs) fails =
      let first : p x ≡ false = fails 0 x (omega arith) in
      rw (last-cons x xs, last_none xs (λ j d under. fails (suc j) d (omega arith)), first) refl

  -- it is the one behind which none passes
  pub last_found : (xs : List X) (i : ℕ) (d : X) → i < length xs → p (get_or xs i d) ≡ true → ((j : ℕ) (e : X) → i < j → j < length xs → p (get_or xs j e) ≡ false) → find p (reverse xs) ≡ Some (get_or xs i d)
  last_found [] i d under passes later = absurd (omega arith)
  last_found (x ∷ xs) zero d under passes later =
      rw (last-cons x xs, last_none xs (λ j e small. later (suc j) e (omega arith) (omega arith)), passes) refl
  last_found (x ∷ xs) (suc i) d under passes later =
      rw (last-cons x xs, last_found xs i d (omega arith) passes (λ j e behind small. later (suc j) e (omega arith) (omega arith))) refl
