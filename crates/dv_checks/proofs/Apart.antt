-- Items that stand once stand once as places, too.
use Rattle.dv_checks.proofs.Vocabulary.{Bool, Contains, Contains-append_cases, Contains-cons_cases, Contains-cons_here, Contains-cons_there, Contains-nil, LinkOutline, List, None, Some, [], again_after, ap, arith, bytes_eq, bytes_eq-Decides, eqb-true, false, get_or, inl, inr, length, list_any}
use Rattle.dv_checks.proofs.Vocabulary.{list_any-map, map, map-append, nat_eq, not, number_twice, or_none, position_or_len, prefix_len_stops, refl, some_passes, some_passes_at, subst, sym, text_twice, true, ℕ, ◌++◌, ◌<◌, ◌∙◌, ◌∷◌, ◌≡◌}
use Rattle.dv_catalog.specs.Checks as spec

-- a test that some item passes stops at one of them
pub place_under : {X : Type 0} (p : X → Bool) (xs : List X) → list_any p xs ≡ true → position_or_len p xs < length xs
place_under p [] e = let no : false ≡ true = e in cc
place_under p (x ∷ xs) e = by (place_under p xs) (p x) refl
  where
    by : (list_any p xs ≡ true → position_or_len p xs < length xs) → (b : Bool) → p x ≡ b → position_or_len p (x ∷ xs) < length (x ∷ xs)
    by later true is = rw is (omega arith)
    by later false is = let under = later (rw is at e) in rw is (omega arith)

-- and the item there passes
pub passes_at_place : {X : Type 0} (p : X → Bool) (xs : List X) (d : X) → position_or_len p xs < length xs → p (get_or xs (position_or_len p xs) d) ≡ true
passes_at_place p xs d under = by (p (get_or xs (position_or_len p xs) d)) refl
  where
    by : (b : Bool) → p (get_or xs (position_or_len p xs) d) ≡ b → p (get_or xs (position_or_len p xs) d) ≡ true
    by true e = e
    by false e = let no : true ≡ false = ap not (sym e) ∙ prefix_len_stops (λ x. not (p x)) xs d under in cc

-- names of entries with one place are one
pub same_place : {X : Type 0} (name_of : X → List ℕ) (xs : List X) (a b : List ℕ)
    → list_any (λ x. bytes_eq (name_of x) a) xs ≡ true → list_any (λ x. bytes_eq (name_of x) b) xs ≡ true
    → position_or_len (λ x. bytes_eq (name_of x) a) xs ≡ position_or_len (λ x. bytes_eq (name_of x) b) xs → a ≡ b
same_place name_of [] a b at_a at_b e = let no : false ≡ true = at_a in cc
same_place name_of (x ∷ xs) a b at_a at_b e =
    let under = place_under (λ y. bytes_eq (name_of y) a) (x ∷ xs) at_a in
    let under_b = place_under (λ y. bytes_eq (name_of y) b) (x ∷ xs) at_b in
    let of_a = (bytes_eq-Decides _ a).0 (passes_at_place (λ y. bytes_eq (name_of y) a) (x ∷ xs) x under) in
    let of_b = (bytes_eq-Decides _ b).0 (passes_at_place (λ y. bytes_eq (name_of y) b) (x ∷ xs) x under_b) in
    sym of_a ∙ ap (λ k. name_of (get_or (x ∷ xs) k x)) e ∙ of_b

-- items that stand once stand once after a function that keeps them apart
apart_mapped : {X Y : Type 0} (eq : X → X → Bool) (same : Y → Y → Bool) (f : X → Y) (all : List X)
    → ((a b : X) → Contains all a → Contains all b → same (f a) (f b) ≡ true → eq a b ≡ true)
    → (before xs : List X) → ((x : X) → Contains before x → Contains all x) → ((x : X) → Contains xs x → Contains all x)
    → again_after eq before xs ≡ None → again_after same (map f before) (map f xs) ≡ None
apart_mapped eq same f all apart before [] in_before in_xs once = refl
apart_mapped {X} {Y} eq same f all apart before (x ∷ xs) in_before in_xs once =
    by (apart_mapped eq same f all apart (before ++ x ∷ []) xs in_more (λ y has. in_xs y (Contains-cons_there x xs y has))) (list_any (λ y. eq y x) before) refl (list_any (λ y. same y (f x)) (map f before)) refl
  where
    in_more : (y : X) → Contains (before ++ x ∷ []) y → Contains all y
    in_more y has =
        elim (Contains-append_cases before (x ∷ []) y has) [
          | inl early ↦ in_before y early
          | inr last ↦ elim (Contains-cons_cases x [] y last) [
            | inl is ↦ subst (Contains all) is (in_xs x (Contains-cons_here x xs))
            | inr none ↦ Contains-nil y none
          ]
        ]

    by : (again_after eq (before ++ x ∷ []) xs ≡ None → again_after same (map f (before ++ x ∷ [])) (map f xs) ≡ None)
        → (b : Bool) → list_any (λ y. eq y x) before ≡ b → (c : Bool) → list_any (λ y. same y (f x)) (map f before) ≡ c
        → again_after same (map f before) (map f (x ∷ xs)) ≡ None
    by later true e c g = let no : Some x ≡ None = rw e at once in cc
    by later false e true g =
        let (y, has, equal) = some_passes (λ y. same (f y) (f x)) before (sym (list_any-map (λ y. same y (f x)) f before) ∙ g) in
        let found : list_any (λ y. eq y x) before ≡ true = some_passes_at (λ y. eq y x) before y has (apart y x (in_before y has) (in_xs x (Contains-cons_here x xs)) equal) in
        let no : true ≡ false = sym found ∙ e in
        cc
    by later false e false g =
        let rest = later (rw e at once) in
        rw (g, ← map-append f before (x ∷ [])) rest

-- names that are declared and stand once have places that stand once
pub places_apart : {X : Type 0} (name_of : X → List ℕ) (entries : List X) (names : List (List ℕ))
    → ((name : List ℕ) → Contains names name → list_any (λ x. bytes_eq (name_of x) name) entries ≡ true)
    → text_twice names ≡ None → number_twice (map (λ name. position_or_len (λ x. bytes_eq (name_of x) name) entries) names) ≡ None
places_apart name_of entries names declared once =
    apart_mapped bytes_eq nat_eq (λ name. position_or_len (λ x. bytes_eq (name_of x) name) entries) names
    (λ a b has_a has_b e.
    let same : a ≡ b = same_place name_of entries a b (declared a has_a) (declared b has_b) (eqb-true _ _ e) in
    ap (λ t. bytes_eq t b) same ∙ (bytes_eq-Decides b b).1 refl)
    [] names (λ name has. Contains-nil name has) (λ name has. has) once

-- links of which no name is again have names that stand once
links_once : (before links : List LinkOutline) → spec.again_in_links before links ≡ None → again_after bytes_eq (map (λ link. link.name) before) (map (λ link. link.name) links) ≡ None
links_once before [] e = refl
links_once before (link ∷ links) e =
    let (here, rest) = or_none _ _ e in
    by (links_once (before ++ link ∷ []) links rest) (list_any (λ other. bytes_eq other.name link.name) before) refl here
  where
    by : again_after bytes_eq (map (λ link. link.name) (before ++ link ∷ [])) (map (λ link. link.name) links) ≡ None
        → (b : Bool) → list_any (λ other. bytes_eq other.name link.name) before ≡ b → spec.again_in_link before link ≡ None
        → again_after bytes_eq (map (λ link. link.name) before) (map (λ link. link.name) (link ∷ links)) ≡ None
    by later true g here = let no : Some link.name ≡ None = rw g at here in cc
    by later false g here =
        let seen : list_any (λ y. bytes_eq y link.name) (map (λ link. link.name) before) ≡ false = list_any-map (λ y. bytes_eq y link.name) (λ link. link.name) before ∙ g in
        rw (seen, ← map-append (λ link. link.name) before (link ∷ [])) later

pub link_names_once : (links : List LinkOutline) → spec.again_in_links [] links ≡ None → text_twice (map (λ link. link.name) links) ≡ None
link_names_once links e = links_once [] links e

-- and each of them names its hubs once
pub references_once : (before links : List LinkOutline) (link : LinkOutline) → spec.again_in_links before links ≡ None → Contains links link → text_twice link.hubs ≡ None
references_once before [] link e has = Contains-nil link has
references_once before (first ∷ links) link e has =
    let (here, rest) = or_none _ _ e in
    let inside : text_twice first.hubs ≡ None = (or_none _ _ here).1 in
    elim (Contains-cons_cases first links link has) [
      | inl same ↦ ap (λ l. text_twice l.hubs) (sym same) ∙ inside
      | inr more ↦ references_once (before ++ first ∷ []) links link rest more
    ]
