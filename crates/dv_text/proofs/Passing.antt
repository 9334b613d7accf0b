-- Tests of every item, of some item and of the first that passes, item by item.
use Rattle.dv_text.proofs.Vocabulary.{All, All-contains, All-replicate, Any-from_list_any, Bool, Contains, Contains-get_or, Decides, Decides-by_and, List, None, Option, Some, [], and_from, ap, false, false_from_ne_true, false≢true, filter, find, get_or, list_all, list_all-append, list_any}
use Rattle.dv_text.proofs.Vocabulary.{list_any_at, map, not, not-false, refl, replicate, rules, same_from_decides, slice_get, sym, true, ℕ, ◌++◌, ◌||◌, ◌∙◌, ◌∷◌, ◌≡◌}
use Rattle.dv_text.proofs.{Members.Contains-cons_cases, Members.Contains-cons_here, Members.Contains-cons_there, Members.Contains-nil, Options.got_member}

-- ---- every item

list_all-Decides : {X : Type 0} (p : X → Bool) (xs : List X) → Decides (list_all p xs) (All (λ x. p x ≡ true) xs)
list_all-Decides p xs = Decides-by_and p (λ x. p x ≡ true) (list_all p) (λ x. (λ e. e, λ e. e)) refl (λ x rest. refl) xs

pub passes_at : {X : Type 0} (p : X → Bool) (xs : List X) (x : X) → list_all p xs ≡ true → Contains xs x → p x ≡ true
passes_at p xs x all has = All-contains (λ x. p x ≡ true) xs x ((list_all-Decides p xs).0 all) has

pub passes_got : {X : Type 0} (p : X → Bool) (xs : List X) (n : ℕ) (x : X) → list_all p xs ≡ true → slice_get xs n ≡ Some x → p x ≡ true
passes_got p xs n x all e = passes_at p xs x all (got_member xs n x e)

pub all_pass : {X : Type 0} (p : X → Bool) (xs : List X) → ((x : X) → Contains xs x → p x ≡ true) → list_all p xs ≡ true
all_pass p xs each = (list_all-Decides p xs).1 (λ k d under. each (get_or xs k d) (Contains-get_or xs k d under))

pub all_pass_weaker : {X : Type 0} (p q : X → Bool) → ((x : X) → p x ≡ true → q x ≡ true) → (xs : List X) → list_all p xs ≡ true → list_all q xs ≡ true
all_pass_weaker p q f xs all = all_pass q xs (λ x has. f x (passes_at p xs x all has))

pub all_pass_both : {X : Type 0} (p : X → Bool) (xs ys : List X) → list_all p xs ≡ true → list_all p ys ≡ true → list_all p (xs ++ ys) ≡ true
all_pass_both p xs ys a b = rw (list_all-append p xs ys) (and_from (list_all p xs) (list_all p ys) a b)

pub all_pass_replicate : {X : Type 0} (p : X → Bool) (n : ℕ) (x : X) → p x ≡ true → list_all p (replicate n x) ≡ true
all_pass_replicate p n x e = (list_all-Decides p (replicate n x)).1 (All-replicate (λ y. p y ≡ true) n x e)

-- ---- some item

pub some_passes : {X : Type 0} (p : X → Bool) (xs : List X) → list_any p xs ≡ true → (x : X) × Contains xs x × (p x ≡ true)
some_passes p xs e = let (k, x, under, there, passes) = Any-from_list_any p xs e in (x, (k, under, there), passes)

pub some_passes_at : {X : Type 0} (p : X → Bool) (xs : List X) (x : X) → Contains xs x → p x ≡ true → list_any p xs ≡ true
some_passes_at p xs x (k, under, there) passes = list_any_at p xs k x under (rw there passes)

pub none_passes : {X : Type 0} (p : X → Bool) (xs : List X) (x : X) → list_any p xs ≡ false → Contains xs x → p x ≡ false
none_passes p xs x none has = false_from_ne_true (p x) (λ e. false≢true (sym none ∙ some_passes_at p xs x has e))

pub none_pass : {X : Type 0} (p : X → Bool) (xs : List X) → ((x : X) → Contains xs x → p x ≡ false) → list_any p xs ≡ false
none_pass p xs fails = false_from_ne_true (list_any p xs) (λ e. let (x, has, passes) = some_passes p xs e in false≢true (sym (fails x has) ∙ passes))

pub list_any-map : {X Y : Type 0} (p : Y → Bool) (f : X → Y) (xs : List X) → list_any p (map f xs) ≡ list_any (λ x. p (f x)) xs
list_any-map p f [] = refl
list_any-map p f (x ∷ xs) = ap (λ b. p (f x) || b) (list_any-map p f xs)

-- ---- the first that passes

pub found_member : {X : Type 0} (p : X → Bool) (xs : List X) (x : X) → find p xs ≡ Some x → Contains xs x × (p x ≡ true)
found_member p [] x e = cc
found_member p (y ∷ xs) x e = search (rules, Contains-cons_here, Contains-cons_there, found_member p xs x)

pub none_found_at : {X : Type 0} (p : X → Bool) (xs : List X) (x : X) → find p xs ≡ None → Contains xs x → p x ≡ false
none_found_at p [] x none has = Contains-nil x has
none_found_at {X} p (y ∷ xs) x none has = search (rules, Contains-cons_cases, none_found_at p xs x)

pub passes_where_none_fails : {X : Type 0} (p : X → Bool) (xs : List X) (x : X) → find (λ y. not (p y)) xs ≡ None → Contains xs x → p x ≡ true
passes_where_none_fails p xs x none has = not-false (p x) (none_found_at (λ y. not (p y)) xs x none has)

-- a search finds an item where one passes
pub finds : {X : Type 0} (p : X → Bool) (xs : List X) (x : X) → Contains xs x → p x ≡ true → (y : X) × (find p xs ≡ Some y)
finds p xs x has passes = by (find p xs) refl
  where
    by : (o : Option _) → find p xs ≡ o → (y : _) × (find p xs ≡ Some y)
    by None e = absurd (false≢true (sym (none_found_at p xs x e has) ∙ passes))
    by (Some y) e = (y, e)

pub find_same : {X : Type 0} (p q : X → Bool) (xs : List X) → ((x : X) → Contains xs x → p x ≡ q x) → find p xs ≡ find q xs
find_same p q [] same = refl
find_same p q (x ∷ xs) same = rw (same x (Contains-cons_here x xs), find_same p q xs (λ y has. same y (Contains-cons_there x xs y has))) refl

pub find_none : {X : Type 0} (p : X → Bool) (xs : List X) → ((x : X) → Contains xs x → p x ≡ false) → find p xs ≡ None
find_none p [] fails = refl
find_none p (x ∷ xs) fails = rw (fails x (Contains-cons_here x xs)) (find_none p xs (λ y has. fails y (Contains-cons_there x xs y has)))

pub find-filter : {X : Type 0} (p : X → Bool) (xs : List X) → find p xs ≡ slice_get (filter p xs) 0
find-filter p [] = refl
find-filter {X} p (x ∷ xs) = search (rules, find-filter p xs)

-- ---- all that pass

pub filter-all : {X : Type 0} (p : X → Bool) (xs : List X) → ((x : X) → Contains xs x → p x ≡ true) → filter p xs ≡ xs
filter-all p [] passes = refl
filter-all p (x ∷ xs) passes = rw (passes x (Contains-cons_here x xs), filter-all p xs (λ y has. passes y (Contains-cons_there x xs y has))) refl

pub filter-none : {X : Type 0} (p : X → Bool) (xs : List X) → ((x : X) → Contains xs x → p x ≡ false) → filter p xs ≡ []
filter-none p [] fails = refl
filter-none p (x ∷ xs) fails = rw (fails x (Contains-cons_here x xs)) (filter-none p xs (λ y has. fails y (Contains-cons_there x xs y has)))

-- ---- two tests

pub same_answer : (a b : Bool) → (a ≡ true → b ≡ true) → (b ≡ true → a ≡ true) → a ≡ b
same_answer a b f g = same_from_decides a b (λ e. e, λ e. e) (g, f)
