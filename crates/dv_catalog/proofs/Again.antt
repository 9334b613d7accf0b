-- What a loop that looks for a name that stands earlier keeps.
use Rattle.dv_catalog.proofs.Vocabulary.{Bool, List, None, Some, again_after, ap, bytes_eq, cond, drop, drop_more, false, get_or, length, list_any, list_any-map, map, map-append, option_or, sym, take, take_more, text_twice, true, ℕ, ◌+◌, ◌<◌, ◌∙◌, ◌≡◌}

-- the search after one entry more
pub again_turn : {X : Type 0} (f : X → List ℕ) (xs : List X) (i : ℕ) (d : X) → i < length xs
    → again_after bytes_eq (map f (take i xs)) (map f (drop i xs))
    ≡ option_or (cond (list_any (λ y. bytes_eq (f y) (f (get_or xs i d))) (take i xs)) (Some (f (get_or xs i d))) None) (again_after bytes_eq (map f (take (i + 1) xs)) (map f (drop (i + 1) xs)))
again_turn f xs i d at = rw (drop_more xs i d at, take_more xs i d at, map-append, list_any-map)

-- a name that stands among those before is the answer
pub again_found : {X : Type 0} (f : X → List ℕ) (xs : List X) (i : ℕ) (x : X) (name : List ℕ) (r : Bool) → i < length xs → x ≡ get_or xs i x → name ≡ f x
    → r ≡ list_any (λ y. bytes_eq (f y) name) (take i xs) → r ≡ true
    → again_after bytes_eq (map f (take i xs)) (map f (drop i xs)) ≡ text_twice (map f xs) → Some name ≡ text_twice (map f xs)
again_found f xs i x name r at is named found passes invariant =
    let turn = again_turn f xs i x at in
    let here : name ≡ f (get_or xs i x) = named ∙ ap f is in
    let again : list_any (λ y. bytes_eq (f y) (f (get_or xs i x))) (take i xs) ≡ true = rw (← here) (sym found ∙ passes) in
    let rest = rw again at turn in
    ap Some here ∙ sym rest ∙ invariant

-- and any other is passed over
pub again_passed : {X : Type 0} (f : X → List ℕ) (xs : List X) (i : ℕ) (x : X) (name : List ℕ) (r : Bool) → i < length xs → x ≡ get_or xs i x → name ≡ f x
    → r ≡ list_any (λ y. bytes_eq (f y) name) (take i xs) → r ≡ false
    → again_after bytes_eq (map f (take i xs)) (map f (drop i xs)) ≡ text_twice (map f xs)
    → again_after bytes_eq (map f (take (i + 1) xs)) (map f (drop (i + 1) xs)) ≡ text_twice (map f xs)
again_passed f xs i x name r at is named found fails invariant =
    let turn = again_turn f xs i x at in
    let here : name ≡ f (get_or xs i x) = named ∙ ap f is in
    let again : list_any (λ y. bytes_eq (f y) (f (get_or xs i x))) (take i xs) ≡ false = rw (← here) (sym found ∙ fails) in
    let rest = rw again at turn in
    sym rest ∙ invariant
