-- Sums over the views of seats, and counts of a number in a list.
use Rattle.dv_board.proofs.Vocabulary.{List, [], ap, arith, at_set, at_snoc, get_elem?, refl, set, some, some-injective, some-ne-none, subst, suc, sym, times, total, zero, ℕ, ⊎_elim, ◌++◌, ◌+◌, ◌∷◌, ◌≡◌, ◌≢◌, ◌≤◌}

module _ {V : Type 0} where
  pub total_set : (f : V → ℕ) (views : List V) (i : ℕ) (v w : V) → get_elem? views i ≡ some v → total f (set views i w) + f v ≡ total f views + f w
  total_set f [] i v w e = absurd (some-ne-none v (sym e))
  total_set f (x ∷ xs) zero v w e = let t : f x ≡ f v = ap f (some-injective x v e) in omega (arith, t)
  total_set f (x ∷ xs) (suc i) v w e = let t = total_set f xs i v w e in omega (arith, t)

  pub total_snoc : (f : V → ℕ) (views : List V) (u : V) → total f (views ++ u ∷ []) ≡ total f views + f u
  total_snoc f [] u = omega arith
  total_snoc f (x ∷ xs) u = let t = total_snoc f xs u in omega (arith, t)

  pub total_at : (f : V → ℕ) (views : List V) (i : ℕ) (v : V) → get_elem? views i ≡ some v → f v ≤ total f views
  total_at f [] i v e = absurd (some-ne-none v (sym e))
  total_at f (x ∷ xs) zero v e = let t : f x ≡ f v = ap f (some-injective x v e) in omega (arith, t)
  total_at f (x ∷ xs) (suc i) v e = let t = total_at f xs i v e in omega (arith, t)

  idle : (share f : V → ℕ) (views : List V) → total share views ≡ 0 → ((j : ℕ) (u : V) → get_elem? views j ≡ some u → share u ≡ 0 → f u ≡ 0) → total f views ≡ 0
  idle share f [] e z = refl
  idle share f (x ∷ xs) e z = let a = z 0 x refl (omega (arith, e)) in let b = idle share f xs (omega (arith, e)) (λ j u. z (suc j) u) in omega (arith, a, b)

  -- the view with every share is all that counts, where a view without a share counts nothing
  pub sole : (share f : V → ℕ) (views : List V) (i : ℕ) (v : V) → get_elem? views i ≡ some v → total share views ≡ share v → ((j : ℕ) (u : V) → get_elem? views j ≡ some u → share u ≡ 0 → f u ≡ 0) → total f views ≡ f v
  sole share f [] i v e all z = absurd (some-ne-none v (sym e))
  sole share f (x ∷ xs) zero v e all z =
      let is : x ≡ v = some-injective x v e in
      let s : share x ≡ share v = ap share is in
      let t : f x ≡ f v = ap f is in
      let b = idle share f xs (omega (arith, all, s)) (λ j u. z (suc j) u) in omega (arith, b, t)
  sole share f (x ∷ xs) (suc i) v e all z =
      let t = total_at share xs i v e in
      let a = z 0 x refl (omega (arith, all, t)) in
      let b = sole share f xs i v e (omega (arith, all, t)) (λ j u. z (suc j) u) in omega (arith, a, b)

  -- what holds of each view, after one took the place of another
  pub all_set : (P : V → Type 0) (views : List V) (i : ℕ) (w : V) → ((j : ℕ) (u : V) → get_elem? views j ≡ some u → P u) → P w → (j : ℕ) (u : V) → get_elem? (set views i w) j ≡ some u → P u
  all_set P views i w all mine j u e = ⊎_elim (λ (x : (j ≡ i) × (w ≡ u)). subst P x.1 mine) (λ (x : (j ≢ i) × (get_elem? views j ≡ some u)). all j u x.1) (at_set views i j w u e)

  -- and after one came last
  pub all_snoc : (P : V → Type 0) (views : List V) (w : V) → ((j : ℕ) (u : V) → get_elem? views j ≡ some u → P u) → P w → (j : ℕ) (u : V) → get_elem? (views ++ w ∷ []) j ≡ some u → P u
  all_snoc P views w all mine j u e = ⊎_elim (λ was. all j u was) (λ (same : w ≡ u). subst P same mine) (at_snoc views w u j e)

  -- the views of one seat
  pub at_only : (v u : V) (i : ℕ) → get_elem? (v ∷ []) i ≡ some u → (i ≡ 0) × (v ≡ u)
  at_only v u zero e = (refl, some-injective v u e)
  at_only v u (suc i) e = absurd (some-ne-none u (sym e))

pub times-append : (x : ℕ) (xs ys : List ℕ) → times x (xs ++ ys) ≡ times x xs + times x ys
times-append x [] ys = omega arith
times-append x (y ∷ xs) ys = let t = times-append x xs ys in omega (arith, t)

pub times_one : (x : ℕ) → times x (x ∷ []) ≡ 1
times_one x = grind arith

pub times_last : (xs : List ℕ) (x : ℕ) → 1 ≤ times x (xs ++ x ∷ [])
times_last xs x = let t = times-append x xs (x ∷ []) in let o = times_one x in omega (arith, t, o)
