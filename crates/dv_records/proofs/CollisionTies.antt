-- The collision of a hub or a link is the least pair of different lists with one hash key.
use Rattle.dv_records.proofs.Vocabulary.{All, All-cons, All-head, All-nil, All-tail, AllByRecursion, Bool, Contains, Contains-cons_cases, Contains-cons_here, Contains-cons_there, Contains-nil, Equal, Greater, Hashes, IsApart, IsLeastPair, IsPairOf, IsStrictlySortedBy, IsTotalOrder, Key, Less}
use Rattle.dv_records.proofs.Vocabulary.{List, Mapping, None, Option, Ordering, Pair, Parent, Some, Window, [], ap, arith, ascending-sorted_by, asymmetric, bytes_eq, bytes_eq-Decides, collision, collision_in, common_steps, false≢true, find, finds, first_collision, found_member, hashed_refs}
use Rattle.dv_records.proofs.Vocabulary.{irreflexive, least_pair, member_after_sort, member_before_sort, member_of_all, none_before_map, on_total, or_none, pair_cmp, parents, refl, refs_cmp, refs_exact, refs_total, rules, sorted_by, subst, sym, then_less, then_total, turned, ◌↔◌, ◌∙◌, ◌∷◌, ◌≡◌}
use Rattle.dv_records.proofs.Vocabulary.{◌⊎◌}

greater_than : (x : List Key) (xs : List (List Key)) → AllByRecursion (λ y. refs_cmp x y ≡ Less) xs → (y : List Key) → Contains xs y → refs_cmp x y ≡ Less
greater_than x xs all y has = member_of_all (λ y. refs_cmp x y ≡ Less) xs y all has

-- ---- the order of pairs

pair_total : IsTotalOrder pair_cmp
pair_total = then_total (on_total (λ (pair : Pair). pair.first) refs_total) (on_total (λ (pair : Pair). pair.second) refs_total)

-- pairs of which neither is less are one
pairs_same : (a b : Pair) → (pair_cmp a b ≡ Less → ⊥) → (pair_cmp b a ≡ Less → ⊥) → a ≡ b
pairs_same a b not_ab not_ba = search (rules, refs_exact, turned, pair_total)

-- ---- the least pair of a list in order

module _ (hashes : Hashes) where
  abbrev alike : List Key → List Key → Bool
  alike refs other = bytes_eq (hashes.hash refs) (hashes.hash other)

  -- a pair of a list, whose first one is the list's first one or not
  pair_cases : (refs : List Key) (greater : List (List Key)) → IsStrictlySortedBy refs_cmp (refs ∷ greater) → (pair : Pair) → IsPairOf hashes (refs ∷ greater) pair
      → ((refs ≡ pair.first) × Contains greater pair.second) ⊎ IsPairOf hashes greater pair
  unfolding IsStrictlySortedBy
  pair_cases refs greater up pair is = grind (arith, common_steps, Contains-cons_cases, irreflexive, refs_total, asymmetric, greater_than)

  more_pair : (refs : List Key) (greater : List (List Key)) (pair : Pair) → IsPairOf hashes greater pair → IsPairOf hashes (refs ∷ greater) pair
  more_pair refs greater pair is = search (rules, Contains-cons_there)

  -- what the least pair of a list is: none where there is no pair, and else the least one
  abbrev Answers : Option Pair → List (List Key) → Type 0
  Answers None lists = (pair : Pair) → IsPairOf hashes lists pair → ⊥
  Answers (Some pair) lists = IsLeastPair hashes lists pair

  -- the first one alike is the least second one
  first_found : (refs : List Key) (all : List (List Key)) → IsStrictlySortedBy refs_cmp all → (found : List Key) → find (alike refs) all ≡ Some found → (other : List Key) → Contains all other
      → hashes.hash refs ≡ hashes.hash other → refs_cmp other found ≡ Less → ⊥
  unfolding IsStrictlySortedBy
  first_found refs [] up found e other has same less = Contains-nil other has
  first_found refs (x ∷ all) up found e other has same less = grind (arith, common_steps, Contains-cons_cases, irreflexive, refs_total, asymmetric, greater_than, bytes_eq-Decides, false≢true, first_found refs all up.1 found)

  -- a list's first one and one alike after it are a pair, and no pair is less than that with the first one alike
  found_is_least : (refs : List Key) (greater : List (List Key)) → IsStrictlySortedBy refs_cmp (refs ∷ greater) → (found : List Key) → find (alike refs) greater ≡ Some found
      → IsLeastPair hashes (refs ∷ greater) (record { first = refs; second = found })
  unfolding IsStrictlySortedBy
  found_is_least refs greater up found e = grind (arith, common_steps, found_member, Contains-cons_here, Contains-cons_there, bytes_eq-Decides, greater_than, then_less, Contains-cons_cases, irreflexive, refs_total, asymmetric, pair_cases, first_found, refs_exact)

  -- where none after it is alike, a list's first one is in no pair
  not_first : (refs : List Key) (greater : List (List Key)) → find (alike refs) greater ≡ None → (pair : Pair) → IsPairOf hashes (refs ∷ greater) pair → refs ≡ pair.first → Contains greater pair.second → ⊥
  not_first refs greater e pair is same has =
      let (found, there) = finds (alike refs) greater pair.second has ((bytes_eq-Decides (hashes.hash refs) (hashes.hash pair.second)).1 (ap hashes.hash same ∙ is.alike)) in
      let no : None ≡ Some found = sym e ∙ there in
      cc

  widened : (refs : List Key) (greater : List (List Key)) → IsStrictlySortedBy refs_cmp (refs ∷ greater) → find (alike refs) greater ≡ None → (o : Option Pair) → Answers o greater → Answers o (refs ∷ greater)
  widened refs greater up e None none = search (rules, pair_cases, not_first)
  widened refs greater up e (Some pair) is_least = search (rules, more_pair, pair_cases, not_first, more_pair refs greater pair is_least.is)

  answers : (lists : List (List Key)) → IsStrictlySortedBy refs_cmp lists → Answers (least_pair hashes.hash lists) lists
  unfolding IsStrictlySortedBy
  answers [] up = λ pair is. Contains-nil pair.first is.has_first
  answers (refs ∷ greater) up = search (rules, found_is_least, widened, answers greater up.1)

  -- ---- the same of any list, put in order

  module _ (lists : List (List Key)) where
    there : (refs : List Key) → Contains lists refs → Contains (sorted_by refs_cmp lists) refs
    there refs = member_after_sort refs_cmp lists refs (λ x member e. refs_exact x refs e)

    back : (refs : List Key) → Contains (sorted_by refs_cmp lists) refs → Contains lists refs
    back = member_before_sort refs_cmp lists

    pair_there : (pair : Pair) → IsPairOf hashes lists pair → IsPairOf hashes (sorted_by refs_cmp lists) pair
    pair_there pair is = record { has_first = there pair.first is.has_first; has_second = there pair.second is.has_second; alike = is.alike; ordered = is.ordered }

    pair_back : (pair : Pair) → IsPairOf hashes (sorted_by refs_cmp lists) pair → IsPairOf hashes lists pair
    pair_back pair is = record { has_first = back pair.first is.has_first; has_second = back pair.second is.has_second; alike = is.alike; ordered = is.ordered }

    sorted_answers : Answers (least_pair hashes.hash (sorted_by refs_cmp lists)) (sorted_by refs_cmp lists)
    sorted_answers = answers (sorted_by refs_cmp lists) (ascending-sorted_by refs_cmp refs_total lists)

    -- no pair is found exactly where no two lists have one hash key
    pub apart_exactly : (least_pair hashes.hash (sorted_by refs_cmp lists) ≡ None) ↔ IsApart hashes lists
    apart_exactly = (λ e. apart (subst (λ o. Answers o (sorted_by refs_cmp lists)) e sorted_answers), λ apart. none apart (least_pair hashes.hash (sorted_by refs_cmp lists)) refl sorted_answers)
      where
        apart : Answers None (sorted_by refs_cmp lists) → IsApart hashes lists
        apart no_pair a b a_in b_in e = by (refs_cmp a b) refl
          where
            by : (o : Ordering) → refs_cmp a b ≡ o → a ≡ b
            by Less f = absurd (no_pair (record { first = a; second = b }) (record { has_first = there a a_in; has_second = there b b_in; alike = e; ordered = f }))
            by Equal f = refs_exact a b f
            by Greater f = absurd (no_pair (record { first = b; second = a }) (record { has_first = there b b_in; has_second = there a a_in; alike = sym e; ordered = refs_total.antisymm b a ∙ rw f }))

        none : IsApart hashes lists → (o : Option Pair) → least_pair hashes.hash (sorted_by refs_cmp lists) ≡ o → Answers o (sorted_by refs_cmp lists) → least_pair hashes.hash (sorted_by refs_cmp lists) ≡ None
        none apart None e is = e
        none apart (Some pair) e is =
            let same : pair.first ≡ pair.second = apart pair.first pair.second (back pair.first is.is.has_first) (back pair.second is.is.has_second) is.is.alike in
            absurd (irreflexive refs_total pair.first (subst (λ w. refs_cmp pair.first w ≡ Less) (sym same) is.is.ordered))

    -- the pair that is found is the least one
    pub least_exactly : (pair : Pair) → (least_pair hashes.hash (sorted_by refs_cmp lists) ≡ Some pair) ↔ IsLeastPair hashes lists pair
    least_exactly pair = (
      λ e.
          let is = subst (λ o. Answers o (sorted_by refs_cmp lists)) e sorted_answers in
          record { is = pair_back pair is.is; least = λ other other_is less. is.least other (pair_there other other_is) less },
      λ is. found is (least_pair hashes.hash (sorted_by refs_cmp lists)) refl sorted_answers,
    )
      where
        found : IsLeastPair hashes lists pair → (o : Option Pair) → least_pair hashes.hash (sorted_by refs_cmp lists) ≡ o → Answers o (sorted_by refs_cmp lists) → least_pair hashes.hash (sorted_by refs_cmp lists) ≡ Some pair
        found is None e no_pair = absurd (no_pair pair (pair_there pair is.is))
        found is (Some other) e other_is =
            e ∙ ap Some (pairs_same other pair (λ less. is.least other (pair_back other other_is.is) less) (λ less. other_is.least pair (pair_there pair is.is) less))

-- ---- hubs and links

pub collision_free : (mapping : Mapping) (hashes : Hashes) (windows : List Window) (parent : Parent) → (collision_in mapping hashes windows parent ≡ None) ↔ IsApart hashes (hashed_refs mapping windows parent)
collision_free mapping hashes windows parent = apart_exactly hashes (hashed_refs mapping windows parent)

pub collision_tied : (mapping : Mapping) (hashes : Hashes) (windows : List Window) (parent : Parent) (pair : Pair) → (collision_in mapping hashes windows parent ≡ Some pair) ↔ IsLeastPair hashes (hashed_refs mapping windows parent) pair
collision_tied mapping hashes windows parent = least_exactly hashes (hashed_refs mapping windows parent)

first_none : (mapping : Mapping) (hashes : Hashes) (windows : List Window) (all : List Parent) → first_collision mapping hashes windows all ≡ None → All (λ parent. collision_in mapping hashes windows parent ≡ None) all
first_none mapping hashes windows [] e = All-nil (λ (parent : Parent). collision_in mapping hashes windows parent ≡ None)
first_none mapping hashes windows (parent ∷ rest) e =
    let (here, behind) = or_none _ (first_collision mapping hashes windows rest) e in
    All-cons (λ (parent : Parent). collision_in mapping hashes windows parent ≡ None) parent rest (none_before_map _ _ here) (first_none mapping hashes windows rest behind)

none_first : (mapping : Mapping) (hashes : Hashes) (windows : List Window) (all : List Parent) → All (λ parent. collision_in mapping hashes windows parent ≡ None) all → first_collision mapping hashes windows all ≡ None
none_first mapping hashes windows [] none = refl
none_first mapping hashes windows (parent ∷ rest) none =
    let here : collision_in mapping hashes windows parent ≡ None = All-head (λ (parent : Parent). collision_in mapping hashes windows parent ≡ None) parent rest none in
    rw here (none_first mapping hashes windows rest (All-tail (λ (parent : Parent). collision_in mapping hashes windows parent ≡ None) parent rest none))

pub none_collide : (mapping : Mapping) (hashes : Hashes) (windows : List Window) → (collision mapping hashes windows ≡ None) ↔ All (λ parent. collision_in mapping hashes windows parent ≡ None) (parents mapping)
none_collide mapping hashes windows = (first_none mapping hashes windows (parents mapping), none_first mapping hashes windows (parents mapping))
