-- The ways along one feed, and those along one feed more as a join with the ways along the feeds before it.
use Rattle.dv_bridge.proofs.Vocabulary.{Bool, Contains, Contains-cons_cases, Contains-cons_here, Contains-cons_there, Contains-nil, KeyedRow, LinkRow, List, Mapping, [], ap, append-nil, append_assoc, are_linked, arith, bare, choices, false, filter, filter-append, flat_map, flat_map-append}
use Rattle.dv_bridge.proofs.Vocabulary.{flat_map-map, flat_map_single, inl, inr, is_same_key, key_of, last_key, length, length-map, longer_ways, map, map-append, map-map, met_by, place_of, refl, row_along, row_over, share, subst, suc, sym, true, zero, ℕ, ◌&&◌, ◌++◌, ◌+◌, ◌∙◌, ◌∷◌, ◌≡◌}
use Rattle.dv_bridge.proofs.Choices.{choice_parts}

-- ---- lists

filter-flat_map : {X Y : Type 0} (p : Y → Bool) (f : X → List Y) (xs : List X) → filter p (flat_map f xs) ≡ flat_map (λ x. filter p (f x)) xs
filter-flat_map p f [] = refl
filter-flat_map p f (x ∷ xs) = filter-append p (f x) (flat_map f xs) ∙ ap (λ rest. filter p (f x) ++ rest) (filter-flat_map p f xs)

map-flat_map : {X Y Z : Type 0} (g : Y → Z) (f : X → List Y) (xs : List X) → map g (flat_map f xs) ≡ flat_map (λ x. map g (f x)) xs
map-flat_map g f [] = refl
map-flat_map g f (x ∷ xs) = map-append g (f x) (flat_map f xs) ∙ ap (λ rest. map g (f x) ++ rest) (map-flat_map g f xs)

-- a test of what is made
pub filter-map : {X Y : Type 0} (p : Y → Bool) (f : X → Y) (xs : List X) → filter p (map f xs) ≡ map f (filter (λ x. p (f x)) xs)
filter-map p f [] = refl
filter-map {X} p f (x ∷ xs) = by (p (f x)) refl (filter-map p f xs)
  where
    by : (b : Bool) → p (f x) ≡ b → filter p (map f xs) ≡ map f (filter (λ x. p (f x)) xs) → filter p (map f (x ∷ xs)) ≡ map f (filter (λ x. p (f x)) (x ∷ xs))
    by true e rest = rw e (ap (λ ys. f x ∷ ys) rest)
    by false e rest = rw e rest

-- what each item that passes is made into, where the others are made into nothing
made_of_passed : {X Y : Type 0} (p : X → Bool) (f g : X → List Y) (xs : List X) → ((x : X) → Contains xs x → p x ≡ true → f x ≡ g x) → ((x : X) → Contains xs x → p x ≡ false → f x ≡ []) → flat_map f xs ≡ flat_map g (filter p xs)
made_of_passed p f g [] passed failed = refl
made_of_passed p f g (x ∷ xs) passed failed =
    by (p x) refl (made_of_passed p f g xs (λ y has. passed y (Contains-cons_there x xs y has)) (λ y has. failed y (Contains-cons_there x xs y has)))
  where
    by : (b : Bool) → p x ≡ b → flat_map f xs ≡ flat_map g (filter p xs) → flat_map f (x ∷ xs) ≡ flat_map g (filter p (x ∷ xs))
    by true e rest = rw (e, passed x (Contains-cons_here x xs) e) (ap (λ ys. g x ++ ys) rest)
    by false e rest = rw (e, failed x (Contains-cons_here x xs) e) rest

pub filter_same : {X : Type 0} (p q : X → Bool) (xs : List X) → ((x : X) → p x ≡ q x) → filter p xs ≡ filter q xs
filter_same p q [] same = refl
filter_same p q (x ∷ xs) same = rw (same x, filter_same p q xs same) refl

pub filter_no : {X : Type 0} (xs : List X) → filter (λ x. false) xs ≡ []
filter_no [] = refl
filter_no (x ∷ xs) = filter_no xs

pub map_same : {X Y : Type 0} (f g : X → Y) (xs : List X) → ((x : X) → f x ≡ g x) → map f xs ≡ map g xs
map_same f g [] same = refl
map_same f g (x ∷ xs) same = rw (same x, map_same f g xs same) refl

-- to take one item more is to take it last
choices-snoc : {X : Type 0} (lists : List (List X)) (xs : List X) → choices (lists ++ xs ∷ []) ≡ flat_map (λ chosen. map (λ x. chosen ++ x ∷ []) xs) (choices lists)
choices-snoc [] xs = flat_map_single (λ x. x ∷ []) xs ∙ sym (append-nil (map (λ x. x ∷ []) xs))
choices-snoc {X} (first ∷ lists) xs = each first (choices-snoc lists xs)
  where
    each : (firsts : List X) → choices (lists ++ xs ∷ []) ≡ flat_map (λ chosen. map (λ x. chosen ++ x ∷ []) xs) (choices lists)
        → flat_map (λ y. map (λ chosen. y ∷ chosen) (choices (lists ++ xs ∷ []))) firsts ≡ flat_map (λ chosen. map (λ x. chosen ++ x ∷ []) xs) (flat_map (λ y. map (λ chosen. y ∷ chosen) (choices lists)) firsts)
    each [] rest = refl
    each (y ∷ ys) rest =
        let here : map (λ chosen. y ∷ chosen) (choices (lists ++ xs ∷ [])) ≡ flat_map (λ chosen. map (λ x. chosen ++ x ∷ []) xs) (map (λ chosen. y ∷ chosen) (choices lists)) =
        ap (map (λ chosen. y ∷ chosen)) rest ∙ map-flat_map (λ chosen. y ∷ chosen) (λ chosen. map (λ x. chosen ++ x ∷ []) xs) (choices lists)
        ∙ behind (choices lists)
        ∙ sym (flat_map-map (λ chosen. map (λ x. chosen ++ x ∷ []) xs) (λ chosen. y ∷ chosen) (choices lists)) in
        rw (here, each ys rest) (sym (flat_map-append (λ chosen. map (λ x. chosen ++ x ∷ []) xs) (map (λ chosen. y ∷ chosen) (choices lists)) (flat_map (λ y. map (λ chosen. y ∷ chosen) (choices lists)) ys)))
      where
        behind : (all : List (List X)) → flat_map (λ chosen. map (λ c. y ∷ c) (map (λ x. chosen ++ x ∷ []) xs)) all ≡ flat_map (λ chosen. map (λ x. y ∷ (chosen ++ x ∷ [])) xs) all
        behind [] = refl
        behind (chosen ∷ all) = rw (map-map (λ c. y ∷ c) (λ x. chosen ++ x ∷ []) xs, behind all) refl

-- a choice has an item of each list
choice_long : {X : Type 0} (lists : List (List X)) (chosen : List X) → Contains (choices lists) chosen → length chosen ≡ length lists
choice_long [] chosen has = ap length (sym (elim (Contains-cons_cases [] [] chosen has) [ inl is ↦ is | inr rest ↦ absurd (Contains-nil chosen rest) ]))
choice_long (xs ∷ lists) chosen has =
    let (x, others, x_in, others_in, is) = choice_parts xs lists chosen has in
    ap length (sym is) ∙ ap suc (choice_long lists others others_in)

-- the hash key of a way's last link
pub last_key-snoc : (place : ℕ) (before : List KeyedRow) (end : KeyedRow) → last_key place (before ++ end ∷ []) ≡ key_of place end
last_key-snoc place [] end = refl
last_key-snoc place (link ∷ []) end = refl
last_key-snoc place (link ∷ more ∷ before) end = last_key-snoc place (more ∷ before) end

-- ---- one feed

module _ (mapping : Mapping) where
  -- the rows of the links of a way
  abbrev rows : List KeyedRow → List LinkRow
  rows way = map (λ (link : KeyedRow). link.row) way

  abbrev are_joined : List ℕ → List ℕ → List KeyedRow → Bool
  are_joined feeds via way = are_linked mapping feeds via (rows way)

  -- there is a way along one feed for each of its links
  pub one_way : (feed : ℕ) (links : List KeyedRow) → filter (λ way. are_linked mapping (feed ∷ []) [] (map (λ (link : KeyedRow). link.row) way)) (choices (links ∷ [])) ≡ map (λ link. link ∷ []) links
  one_way feed [] = refl
  one_way feed (link ∷ links) = ap (λ ways. (link ∷ []) ∷ ways) (one_way feed links)

  -- ---- one feed more

  and-assoc : (a b c d : Bool) → c ≡ d → (a && (b && c)) ≡ ((a && b) && d)
  and-assoc true b c d e = ap (λ t. b && t) e
  and-assoc false b c d e = refl

  and-once : (a b : Bool) → (a && b) ≡ ((a && true) && b)
  and-once true b = refl
  and-once false b = refl

  and-true : (a : Bool) → (a && true) ≡ a
  and-true true = refl
  and-true false = refl

  -- neighbours are linked where those before the last one are, and the last one is with the one before it
  linked-snoc : (feeds : List ℕ) (last next hub : ℕ) (via : List ℕ) (before : List LinkRow) (a link : LinkRow) → length via ≡ length feeds → length before ≡ length feeds
      → are_linked mapping (feeds ++ last ∷ next ∷ []) (via ++ hub ∷ []) (before ++ a ∷ link ∷ [])
      ≡ (are_linked mapping (feeds ++ last ∷ []) via (before ++ a ∷ []) && share mapping hub last next a link)
  linked-snoc [] last next hub (h ∷ via) before a link long as_long = absurd (omega (arith, long))
  linked-snoc [] last next hub [] (b ∷ before) a link long as_long = absurd (omega (arith, as_long))
  linked-snoc [] last next hub [] [] a link long as_long = and-true (share mapping hub last next a link)
  linked-snoc (f ∷ feeds) last next hub [] before a link long as_long = absurd (omega (arith, long))
  linked-snoc (f ∷ feeds) last next hub (h ∷ via) [] a link long as_long = absurd (omega (arith, as_long))
  linked-snoc (f ∷ []) last next hub (h ∷ h2 ∷ via) (b ∷ before) a link long as_long = absurd (omega (arith, long))
  linked-snoc (f ∷ []) last next hub (h ∷ []) (b ∷ c ∷ before) a link long as_long = absurd (omega (arith, as_long))
  linked-snoc (f ∷ []) last next hub (h ∷ []) (b ∷ []) a link long as_long = ap (λ t. share mapping h f last b a && t) (and-true (share mapping hub last next a link)) ∙ and-once (share mapping h f last b a) (share mapping hub last next a link)
  linked-snoc (f ∷ g ∷ feeds) last next hub (h ∷ via) (b ∷ []) a link long as_long = absurd (omega (arith, as_long))
  linked-snoc (f ∷ g ∷ feeds) last next hub (h ∷ []) (b ∷ c ∷ before) a link long as_long = absurd (omega (arith, long))
  linked-snoc (f ∷ g ∷ feeds) last next hub (h ∷ h2 ∷ via) (b ∷ c ∷ before) a link long as_long =
      ap (λ t. share mapping h f g b c && t) (linked-snoc (g ∷ feeds) last next hub (h2 ∷ via) (c ∷ before) a link (omega (arith, long)) (omega (arith, as_long)))
      ∙ and-assoc (share mapping h f g b c) (are_linked mapping (g ∷ (feeds ++ last ∷ [])) (h2 ∷ via) (c ∷ (before ++ a ∷ []))) _ _ refl

  module _ (feeds : List ℕ) (last next hub : ℕ) (via : List ℕ) (long : length via ≡ length feeds) where
    -- a way's last link
    ended : (count : ℕ) (way : List KeyedRow) → length way ≡ suc count → (before : List KeyedRow) × (end : KeyedRow) × (length before ≡ count) × (before ++ end ∷ [] ≡ way)
    ended count [] l = absurd (omega (arith, l))
    ended zero (link ∷ []) l = ([], link, refl, refl)
    ended zero (link ∷ more ∷ way) l = absurd (omega (arith, l))
    ended (suc count) (link ∷ []) l = absurd (omega (arith, l))
    ended (suc count) (link ∷ more ∷ way) l =
        let (before, end, as_long, is) = ended count (more ∷ way) (omega (arith, l)) in
        (link ∷ before, end, ap suc as_long, ap (λ rest. link ∷ rest) is)

    abbrev left : ℕ
    left = place_of mapping last hub

    abbrev right : ℕ
    right = place_of mapping next hub

    linked : (way : List KeyedRow) (link : KeyedRow) → length way ≡ suc (length feeds)
        → are_joined (feeds ++ last ∷ next ∷ []) (via ++ hub ∷ []) (way ++ link ∷ []) ≡ (are_joined (feeds ++ last ∷ []) via way && is_same_key (last_key left way) (key_of right link))
    linked way link size =
        let (before, end, as_long, is) = ended (length feeds) way size in
        subst (λ way. are_joined (feeds ++ last ∷ next ∷ []) (via ++ hub ∷ []) (way ++ link ∷ []) ≡ (are_joined (feeds ++ last ∷ []) via way && is_same_key (last_key left way) (key_of right link))) is
        (ap (are_linked mapping (feeds ++ last ∷ next ∷ []) (via ++ hub ∷ []))
        (ap rows (append_assoc before (end ∷ []) (link ∷ [])) ∙ map-append (λ (link : KeyedRow). link.row) before (end ∷ link ∷ []))
        ∙ linked-snoc feeds last next hub via (rows before) end.row link.row long (length-map before (λ (link : KeyedRow). link.row) ∙ as_long)
        ∙ (λ i. are_linked mapping (feeds ++ last ∷ []) via (sym (map-append (λ (link : KeyedRow). link.row) before (end ∷ [])) i) && is_same_key (sym (last_key-snoc left before end) i) (key_of right link)))

    -- the ways along one feed more are those that go on from the ways before them
    pub next_ways : (lists : List (List KeyedRow)) (links : List KeyedRow) → length lists ≡ suc (length feeds)
        → filter (λ way. are_linked mapping (feeds ++ last ∷ next ∷ []) (via ++ hub ∷ []) (map (λ (link : KeyedRow). link.row) way)) (choices (lists ++ links ∷ []))
        ≡ longer_ways (place_of mapping last hub) (place_of mapping next hub) links (filter (λ way. are_linked mapping (feeds ++ last ∷ []) via (map (λ (link : KeyedRow). link.row) way)) (choices lists))
    next_ways lists links size =
        ap (filter (are_joined (feeds ++ last ∷ next ∷ []) (via ++ hub ∷ []))) (choices-snoc lists links)
        ∙ filter-flat_map (are_joined (feeds ++ last ∷ next ∷ []) (via ++ hub ∷ [])) (λ way. map (λ link. way ++ link ∷ []) links) (choices lists)
        ∙ made_of_passed (are_joined (feeds ++ last ∷ []) via) (λ way. filter (are_joined (feeds ++ last ∷ next ∷ []) (via ++ hub ∷ [])) (map (λ link. way ++ link ∷ []) links)) (λ way. map (λ link. way ++ link ∷ []) (met_by right (last_key left way) links)) (choices lists)
        (λ way has passes. going way (λ link. is_same_key (last_key left way) (key_of right link)) (λ link. linked way link (choice_long lists way has ∙ size) ∙ ap (λ t. t && is_same_key (last_key left way) (key_of right link)) passes))
        (λ way has fails.
        going way (λ link. false) (λ link. linked way link (choice_long lists way has ∙ size) ∙ ap (λ t. t && is_same_key (last_key left way) (key_of right link)) fails)
        ∙ ap (map (λ link. way ++ link ∷ [])) (filter_no links))
      where
        going : (way : List KeyedRow) (test : KeyedRow → Bool) → ((link : KeyedRow) → are_joined (feeds ++ last ∷ next ∷ []) (via ++ hub ∷ []) (way ++ link ∷ []) ≡ test link)
            → filter (are_joined (feeds ++ last ∷ next ∷ []) (via ++ hub ∷ [])) (map (λ link. way ++ link ∷ []) links) ≡ map (λ link. way ++ link ∷ []) (filter test links)
        going way test same = filter-map (are_joined (feeds ++ last ∷ next ∷ []) (via ++ hub ∷ [])) (λ link. way ++ link ∷ []) links ∙ ap (map (λ link. way ++ link ∷ [])) (filter_same _ test links same)

  -- ---- bridges

  rows_bare : (chosen : List LinkRow) → rows (map bare chosen) ≡ chosen
  rows_bare [] = refl
  rows_bare (row ∷ chosen) = ap (λ rest. row ∷ rest) (rows_bare chosen)

  choices-bare : (links : ℕ → List LinkRow) (feeds : List ℕ) → choices (map (λ feed. map bare (links feed)) feeds) ≡ map (map bare) (choices (map links feeds))
  choices-bare links [] = refl
  choices-bare links (feed ∷ feeds) = each (links feed) (choices-bare links feeds)
    where
      each : (firsts : List LinkRow) → choices (map (λ feed. map bare (links feed)) feeds) ≡ map (map bare) (choices (map links feeds))
          → flat_map (λ first. map (λ others. first ∷ others) (choices (map (λ feed. map bare (links feed)) feeds))) (map bare firsts)
          ≡ map (map bare) (flat_map (λ first. map (λ others. first ∷ others) (choices (map links feeds))) firsts)
      each [] rest = refl
      each (first ∷ firsts) rest =
          let here : map (λ others. bare first ∷ others) (choices (map (λ feed. map bare (links feed)) feeds)) ≡ map (map bare) (map (λ others. first ∷ others) (choices (map links feeds))) =
          ap (map (λ others. bare first ∷ others)) rest ∙ map-map (λ others. bare first ∷ others) (map bare) (choices (map links feeds)) ∙ sym (map-map (map bare) (λ others. first ∷ others) (choices (map links feeds))) in
          (λ i. here i ++ each firsts rest i) ∙ sym (map-append (map bare) (map (λ others. first ∷ others) (choices (map links feeds))) (flat_map (λ first. map (λ others. first ∷ others) (choices (map links feeds))) firsts))

  -- the bridge rows along the ways of links without keys are those over the links
  pub along_bare : (links : ℕ → List LinkRow) (feeds all via : List ℕ)
      → map row_along (filter (λ way. are_linked mapping all via (map (λ (link : KeyedRow). link.row) way)) (choices (map (λ feed. map bare (links feed)) feeds)))
      ≡ map row_over (filter (are_linked mapping all via) (choices (map links feeds)))
  along_bare links feeds all via =
      ap (λ ways. map row_along (filter (are_joined all via) ways)) (choices-bare links feeds)
      ∙ ap (map row_along) (filter-map (are_joined all via) (map bare) (choices (map links feeds)) ∙ ap (map (map bare)) (filter_same _ (are_linked mapping all via) (choices (map links feeds)) (λ chosen. ap (are_linked mapping all via) (rows_bare chosen))))
      ∙ map-map row_along (map bare) (filter (are_linked mapping all via) (choices (map links feeds)))
      ∙ map_same (λ chosen. row_along (map bare chosen)) row_over (filter (are_linked mapping all via) (choices (map links feeds))) (λ chosen. ap row_over (rows_bare chosen))
