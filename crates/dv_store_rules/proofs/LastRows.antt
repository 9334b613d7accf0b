-- The last item of a list.
use Rattle.dv_store_rules.proofs.Vocabulary.{List, None, Option, Some, [], ap, arith, is_lt, last_got, last_or, length, map, nat_cmp, nat_lt, nat_tests, option_map, option_map_or, refl, slice_get, sym, true, ℕ, ◌-◌, ◌∙◌, ◌∷◌, ◌≡◌}

pub last_is : {X : Type 0} (o : Option X) (xs : List X) (x : X) → Some x ≡ slice_get xs (length xs - 1) → last_or o xs ≡ Some x
last_is o [] x there = cc
last_is o (y ∷ xs) x there =
    let place : length xs ≡ length (y ∷ xs) - 1 = omega arith in
    last_got o y xs ∙ ap (slice_get (y ∷ xs)) place ∙ sym there

pub last_map : {X Y : Type 0} (f : X → Y) (o : Option X) (xs : List X) → last_or (option_map f o) (map f xs) ≡ option_map f (last_or o xs)
last_map f o [] = refl
last_map f o (x ∷ xs) = last_map f (Some x) xs

-- a date later than that of the last item
lt_is : (a b : ℕ) → is_lt (nat_cmp a b) ≡ nat_lt a b
lt_is a b = grind (arith, nat_tests)

pub later_than : {X : Type 0} (date_of : X → ℕ) (items : List X) (last : X) (date : ℕ) → Some last ≡ slice_get items (length items - 1)
    → is_lt (nat_cmp (date_of last) date) ≡ option_map_or (λ before. nat_lt before date) (last_or None (map date_of items)) true
later_than date_of items last date there =
    let is : last_or None (map date_of items) ≡ Some (date_of last) = last_map date_of None items ∙ ap (option_map date_of) (last_is None items last there) in
    rw is (lt_is (date_of last) date)
