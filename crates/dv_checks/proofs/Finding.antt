-- What loops that look for a first place keep.
use Rattle.dv_checks.proofs.Vocabulary.{Bool, List, None, Some, drop, drop_more, find, find-append, flat_map, get_or, length, option_or, refl, sym, ℕ, ◌+◌, ◌<◌, ◌∙◌, ◌≡◌}

-- the first among joined lists is in the first of them, or in those after
pub find_joined : {X Y : Type 0} (p : Y → Bool) (f : X → List Y) (xs : List X) (i : ℕ) (d : X) → i < length xs
    → find p (flat_map f (drop i xs)) ≡ option_or (find p (f (get_or xs i d))) (find p (flat_map f (drop (i + 1) xs)))
find_joined p f xs i d at = rw (drop_more xs i d at, find-append) refl

-- one that is found is the answer
pub joined_found : {X Y : Type 0} (p : Y → Bool) (f : X → List Y) (xs : List X) (i : ℕ) (x : X) (ys : List Y) (y : Y) → i < length xs → x ≡ get_or xs i x
    → ys ≡ f x → Some y ≡ find p ys → find p (flat_map f (drop i xs)) ≡ find p (flat_map f xs) → Some y ≡ find p (flat_map f xs)
joined_found p f xs i x ys y at is here found invariant =
    let turn = find_joined p f xs i x at in
    let rest = rw (← is, ← here, ← found) at turn in
    sym rest ∙ invariant

-- and where none is found the search goes on
pub joined_passed : {X Y : Type 0} (p : Y → Bool) (f : X → List Y) (xs : List X) (i : ℕ) (x : X) (ys : List Y) → i < length xs → x ≡ get_or xs i x
    → ys ≡ f x → None ≡ find p ys → find p (flat_map f (drop i xs)) ≡ find p (flat_map f xs) → find p (flat_map f (drop (i + 1) xs)) ≡ find p (flat_map f xs)
joined_passed p f xs i x ys at is here none invariant =
    let turn = find_joined p f xs i x at in
    let rest = rw (← is, ← here, ← none) at turn in
    sym rest ∙ invariant

pub ruleset joined_finds = (find-append)
