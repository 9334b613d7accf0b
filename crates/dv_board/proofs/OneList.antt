-- Two ascending lists with the same numbers are one list.
use Rattle.dv_board.proofs.Vocabulary.{AllByRecursion, AreLeastOffered, Contains, Contains-append_right, HasEach, IsStrictlySortedBy, Keys, LeastIsOneList, Less, List, [], arith, inl, inr, nat_cmp, refl, subst, suc, sym, zero, ℕ, ⊎_elim, ◌<◌, ◌∷◌, ◌≡◌, ◌⊎◌}

less_below : (x y : ℕ) → nat_cmp x y ≡ Less → x < y
less_below x y e = grind (arith, e)

above_head : (x a : ℕ) (xs : List ℕ) → AllByRecursion (λ y. nat_cmp x y ≡ Less) xs → Contains xs a → x < a
above_head x a [] h (k, under, there) = absurd (omega (arith, under))
above_head x a (y ∷ ys) h (zero, under, there) = let lt = less_below x y h.0 in omega (arith, lt, there)
above_head x a (y ∷ ys) h (suc k, under, there) = above_head x a ys h.1 (k, omega (arith, under), there)

head_or_tail : (x a : ℕ) (xs : List ℕ) → Contains (x ∷ xs) a → (x ≡ a) ⊎ Contains xs a
head_or_tail x a xs (zero, under, there) = inl there
head_or_tail x a xs (suc k, under, there) = inr (k, omega (arith, under), there)

one_list : (xs ys : List ℕ) → IsStrictlySortedBy nat_cmp xs → IsStrictlySortedBy nat_cmp ys → ((a : ℕ) → Contains xs a → Contains ys a) → ((a : ℕ) → Contains ys a → Contains xs a) → xs ≡ ys
unfolding IsStrictlySortedBy
one_list [] [] p q f g = refl
one_list [] (y ∷ ys) p q f g = let none = g y (0, omega arith, refl) in let under = none.1 in absurd (omega (arith, under))
one_list (x ∷ xs) [] p q f g = let none = f x (0, omega arith, refl) in let under = none.1 in absurd (omega (arith, under))
one_list (x ∷ xs) (y ∷ ys) p q f g =
    let same : x ≡ y = ⊎_elim
    (λ (e : y ≡ x). sym e)
    (λ (later : Contains ys x). ⊎_elim
    (λ (e : x ≡ y). e)
    (λ (other : Contains xs y). let a = above_head y x ys q.0 later in let b = above_head x y xs p.0 other in absurd (omega (arith, a, b)))
    (head_or_tail x y xs (g y (0, omega arith, refl))))
    (head_or_tail y x ys (f x (0, omega arith, refl))) in
    let rest : xs ≡ ys = one_list xs ys p.1 q.1
    (λ a has. ⊎_elim
    (λ (e : y ≡ a). let lt = above_head x a xs p.0 has in absurd (omega (arith, lt, e, same)))
    (λ (there : Contains ys a). there)
    (head_or_tail y a ys (f a (Contains-append_right (x ∷ []) xs a has))))
    (λ a has. ⊎_elim
    (λ (e : x ≡ a). let lt = above_head y a ys q.0 has in absurd (omega (arith, lt, e, same)))
    (λ (there : Contains xs a). there)
    (head_or_tail x a xs (g a (Contains-append_right (y ∷ []) ys a has)))) in
    λ i. same i ∷ rest i

-- a least item of the one is in the other
carried : (k : Keys) (offers others xs ys : List ℕ) → HasEach offers others → HasEach others offers → AreLeastOffered k offers xs → AreLeastOffered k others ys → (a : ℕ) → Contains xs a → Contains ys a
carried k offers others xs ys more less p q a has =
    let is = p.only a has in
    let b = q.each a (less a is.offered) in
    let other = q.only b.0 b.1 in
    let up = is.least b.0 (more b.0 other.offered) b.2 in
    let down = other.least a (less a is.offered) (sym b.2) in
    subst (Contains ys) (omega (arith, up, down)) b.1

pub least_is_one_list : LeastIsOneList
least_is_one_list k offers others xs ys more less p q =
    one_list xs ys p.ascending q.ascending (carried k offers others xs ys more less p q) (carried k others offers ys xs less more q p)
