-- Columns among names: the mapped columns are those of the keys, then the sub, then the attributes.
use Rattle.dv_stage.proofs.Vocabulary.{Bool, FeedDef, List, Some, [], ap, bytes_eq, drop, drop_got, find, find-append, flat_map, is_among, known_columns, list_any, list_any-append, mapped_columns, option_or, refl, slice_get, ℕ, ◌++◌, ◌+◌, ◌||◌, ◌∙◌, ◌∷◌, ◌≡◌}

pub list_any-flat_map : {X : Type 0} (test : X → Bool) (lists : List (List X)) → list_any test (flat_map (λ xs. xs) lists) ≡ list_any (λ xs. list_any test xs) lists
list_any-flat_map test [] = refl
list_any-flat_map test (xs ∷ lists) = list_any-append test xs (flat_map (λ xs. xs) lists) ∙ ap (λ b. list_any test xs || b) (list_any-flat_map test lists)

pub find-mapped : (test : List ℕ → Bool) (feed : FeedDef) → find test (mapped_columns feed) ≡ option_or (option_or (find test (flat_map (λ columns. columns) feed.keys)) (find test feed.sub)) (find test feed.attrs)
find-mapped test feed = find-append test (flat_map (λ columns. columns) feed.keys ++ feed.sub) feed.attrs ∙ ap (λ o. option_or o (find test feed.attrs)) (find-append test (flat_map (λ columns. columns) feed.keys) feed.sub)

pub known-among : (feed : FeedDef) (name : List ℕ)
    → is_among (known_columns feed) name ≡ (list_any (λ columns. is_among columns name) feed.keys || is_among feed.sub name || is_among feed.attrs name || is_among feed.ignore name)
known-among feed name =
    let test = λ (other : List ℕ). bytes_eq other name in
    let keys = flat_map (λ columns. columns) feed.keys in
    list_any-append test (keys ++ feed.sub ++ feed.attrs) feed.ignore
    ∙ ap (λ b. b || list_any test feed.ignore) (list_any-append test (keys ++ feed.sub) feed.attrs
    ∙ ap (λ b. b || list_any test feed.attrs) (list_any-append test keys feed.sub ∙ ap (λ b. b || list_any test feed.sub) (list_any-flat_map test feed.keys)))

-- a look through lists one after another
pub find-flat_map : {X : Type 0} (test : X → Bool) (lists : List (List X)) (i : ℕ) (xs : List X) → slice_get lists i ≡ Some xs
    → find test (flat_map (λ xs. xs) (drop i lists)) ≡ option_or (find test xs) (find test (flat_map (λ xs. xs) (drop (i + 1) lists)))
find-flat_map test lists i xs e = rw (drop_got lists i xs e) (find-append test xs (flat_map (λ xs. xs) (drop (i + 1) lists)))

pub ruleset among_known = (known-among)

pub ruleset find_mapped = (find-mapped)
