-- A row that is looked up by its hash key and misses no reference.
use Rattle.dv_bridge.proofs.Vocabulary.{Bool, LinkRow, List, Option, [], ap, bare, cons_option, false, filter, filter-append, filter_map, filter_map_more, get_or, is_whole, is_zero, length, list_any, map, map-append, option_to_list, refl, sym, take, ℕ, ◌++◌, ◌+◌, ◌<◌, ◌∙◌, ◌∷◌, ◌≡◌}

-- a loop's step
pub links_more : {X Y Z : Type 0} (h : X → Option Y) (p : Y → Bool) (f : Y → Z) (xs : List X) (i : ℕ) (x : X) → i < length xs → x ≡ get_or xs i x
    → map f (filter p (filter_map h (take i xs))) ++ map f (filter p (option_to_list (h x))) ≡ map f (filter p (filter_map h (take (i + 1) xs)))
links_more h p f xs i x under is =
    sym (
    ap (λ all. map f (filter p all)) (filter_map_more h xs i x under ∙ ap (λ y. filter_map h (take i xs) ++ option_to_list (h y)) (sym is))
    ∙ ap (map f) (filter-append p (filter_map h (take i xs)) (option_to_list (h x))) ∙ map-append f (filter p (filter_map h (take i xs))) (filter p (option_to_list (h x))))

-- a row that misses no reference is one of them
pub whole_row : (row : LinkRow) (read : List (List ℕ)) → read ≡ row.hubs → false ≡ list_any is_zero read → bare row ∷ [] ≡ map bare (filter is_whole (row ∷ []))
whole_row row read same none =
    let whole : list_any is_zero row.hubs ≡ false = sym (none ∙ ap (list_any is_zero) same) in
    rw whole refl

-- what is told of things that are found in turn
pub told_in_turn : {A P Y : Type 0} (f : A → Option Y) (F : P → Option Y) (found : List A) (asked : List P) → map f found ≡ map F asked → filter_map f found ≡ filter_map F asked
told_in_turn f F [] [] e = refl
told_in_turn f F [] (p ∷ asked) e = cc
told_in_turn f F (a ∷ found) [] e = cc
told_in_turn f F (a ∷ found) (p ∷ asked) e =
    let here : f a ≡ F p = cc in
    let there : map f found ≡ map F asked = cc in
    λ i. cons_option (here i) (told_in_turn f F found asked there i)
