-- The place of the first item that passes a test, or else the number of items.
use Rattle.dv_catalog.proofs.Vocabulary.{Bool, List, None, Some, [], arith, cond, false, get_or, length, map, map_more, nat_lt, nat_tests, not, position, position_or_len, prefix_len-le-length, refl, take, true, unwrap_or, ℕ, ◌++◌, ◌+◌, ◌<◌, ◌∷◌, ◌≡◌, ◌≤◌}

pub place_or_len : {X : Type 0} (p : X → Bool) (xs : List X) → unwrap_or (position p xs) (length xs) ≡ position_or_len p xs
place_or_len {X} p xs = by (nat_lt (position_or_len p xs) (length xs)) refl
  where
    by : (b : Bool) → nat_lt (position_or_len p xs) (length xs) ≡ b → unwrap_or (cond (nat_lt (position_or_len p xs) (length xs)) (Some (position_or_len p xs)) None) (length xs) ≡ position_or_len p xs
    by true e = rw e
    by false e =
        let bound = prefix_len-le-length (λ x. not (p x)) xs in
        let past : length xs ≤ position_or_len p xs = grind (arith, nat_tests, e) in
        rw e (omega arith)

-- a loop's step
pub mapped_more : {X Y : Type 0} (f : X → Y) (xs : List X) (i : ℕ) (x : X) (y : Y) (made pushed : List Y) → i < length xs → x ≡ get_or xs i x → y ≡ f x
    → made ≡ map f (take i xs) → pushed ≡ made ++ y ∷ [] → pushed ≡ map f (take (i + 1) xs)
mapped_more f xs i x y made pushed at is gives invariant push = rw (map_more f xs i x at, ← is, ← gives, ← invariant) push
