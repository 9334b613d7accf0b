-- The ways along the first feeds of a path: along one, along one more, and along all; and what they are of sealed windows.
use Rattle.dv_bridge.proofs.Vocabulary.{AreFirstWays, Bool, BridgeFault, Contains, Err, HasSealed, HasTooManyWays, HasZeroKeys, Hashes, IfOk, KeyedRow, List, Mapping, Ok, PathDef, RawVault, Result, Some, TableRows, Window, [], ap, append_assoc, are_linked, arith, bare, bridge, bridge_read}
use Rattle.dv_bridge.proofs.Vocabulary.{cases_lt, choices, contents, false, feed_links, filter, first_ways, get_or-range_with_len, inl, inr, is_path_too_large, is_too_large, is_valid, le-ltb, length, length-map, length-range_with_len, length-take-le, longer_ways, lt-ltb, map, most_path_rows}
use Rattle.dv_bridge.proofs.Vocabulary.{nat_lt, none_pass, option_map_or, place_of, prefix_rows, range_with_len, row_along, slice_get, slice_get_within, some_passes_at, subst, suc, sym, take, take-length, take-map, take_got, true, valid_path, ℕ, ◌++◌, ◌+◌, ◌-◌, ◌<◌, ◌∙◌, ◌∷◌, ◌≡◌, ◌≤◌}
use Rattle.dv_bridge.proofs.{LongerWays.along_bare, LongerWays.next_ways, LongerWays.one_way, BridgesTell.bridges_tell, BridgesTell.prefixes_tell}
use Rattle.dv_bridge.specs.declared.fault.BridgeFault.TheVariants as of_ways

-- ---- lists

take_one : {X : Type 0} (xs : List X) (x : X) → slice_get xs 0 ≡ Some x → take 1 xs ≡ x ∷ []
take_one xs x at = take_got xs 0 x at

counted : (count k : ℕ) → Contains (range_with_len 1 count) k → (1 ≤ k) × (k ≤ count)
counted count k has =
    let under : has.0 < count = subst (λ n. has.0 < n) (length-range_with_len 1 count) has.1 in
    let is : 1 + has.0 ≡ k = sym (get_or-range_with_len 1 count has.0 k under) ∙ has.2 in
    (omega (arith, is), omega (arith, is, under))

count_there : (count k : ℕ) → 1 ≤ k → k ≤ count → Contains (range_with_len 1 count) k
count_there count k some within =
    let under : k - 1 < count = omega arith in
    let place : k - 1 < length (range_with_len 1 count) = subst (λ n. k - 1 < n) (sym (length-range_with_len 1 count)) under in
    let is : 1 + (k - 1) ≡ k = omega arith in
    (k - 1, place, get_or-range_with_len 1 count (k - 1) k under ∙ is)

-- two facts of a value that came back
pub both_ok : {X Y : Type 0} (r : Result X Y) (P Q R : X → Type 0) → ((x : X) → P x → Q x → R x) → IfOk r P → IfOk r Q → IfOk r R
both_ok (Ok x) P Q R f p q = f x p q
both_ok (Err e) P Q R f p q = tt

-- a fault that is answered as it is
pub fault_same : {X : Type 0} (r : Result X BridgeFault) (fault told : BridgeFault) → r ≡ Err told → told ≡ fault → r ≡ Err of_ways.TooLarge → fault ≡ of_ways.TooLarge
fault_same r fault told is same large = cc

-- ways that go on at the same places with the same links
pub same_longer : {left first right second : ℕ} {more links : List KeyedRow} → left ≡ first → right ≡ second → more ≡ links → (ways : List (List KeyedRow)) → longer_ways left right more ways ≡ longer_ways first second links ways
same_longer lefts rights are ways = λ i. longer_ways (lefts i) (rights i) (are i) ways

-- ---- the ways along first feeds

module _ (mapping : Mapping) (links : List (List KeyedRow)) (path : PathDef) (as_many : length links ≡ length path.feeds) (one_less : length path.via + 1 ≡ length path.feeds) where
  module _ (feed : ℕ) (at : slice_get path.feeds 0 ≡ Some feed) (first : List KeyedRow) (first_at : slice_get links 0 ≡ Some first) where
    over_one : first_ways mapping links path 1 ≡ map (λ link. link ∷ []) first
    over_one =
        (λ i. filter (λ way. are_linked mapping (take_one path.feeds feed at i) [] (map (λ (link : KeyedRow). link.row) way)) (choices (take_one links first first_at i)))
        ∙ one_way mapping feed first

    -- the ways along the first feed
    pub one_feed : (ways : List (List KeyedRow)) → ways ≡ map (λ link. link ∷ []) first → length ways ≤ most_path_rows → AreFirstWays mapping links path 1 ways
    one_feed ways is few = record {
      ways_are = is ∙ sym over_one;
      few = λ k some within.
          let one : 1 ≡ k = omega (arith, some, within) in
          subst (λ n. length (first_ways mapping links path n) ≤ most_path_rows) one (subst (λ (ways : List (List KeyedRow)). length ways ≤ most_path_rows) (is ∙ sym over_one) few);
    }

    -- they are too many
    pub one_too_many : most_path_rows < length first → HasTooManyWays mapping links path
    one_too_many many = record {
      count = 1;
      some = omega arith;
      within = let under = slice_get_within path.feeds 0 feed at in omega (arith, under);
      many = subst (λ size. most_path_rows < size) (sym (ap length over_one ∙ length-map first (λ (link : KeyedRow). link ∷ []))) many;
    }

  module _ (place last next hub : ℕ) (more : List KeyedRow) (last_at : slice_get path.feeds place ≡ Some last) (next_at : slice_get path.feeds (place + 1) ≡ Some next) (hub_at : slice_get path.via place ≡ Some hub)
      (more_at : slice_get links (place + 1) ≡ Some more) where
    feeds_before : take (place + 1) path.feeds ≡ take place path.feeds ++ last ∷ []
    feeds_before = take_got path.feeds place last last_at

    feeds_after : take (place + 1 + 1) path.feeds ≡ take place path.feeds ++ last ∷ next ∷ []
    feeds_after = take_got path.feeds (place + 1) next next_at ∙ ap (λ front. front ++ next ∷ []) feeds_before ∙ append_assoc (take place path.feeds) (last ∷ []) (next ∷ [])

    via_before : take (place + 1 - 1) path.via ≡ take place path.via
    via_before = let same : place + 1 - 1 ≡ place = omega arith in ap (λ n. take n path.via) same

    via_after : take (place + 1 + 1 - 1) path.via ≡ take place path.via ++ hub ∷ []
    via_after = let same : place + 1 + 1 - 1 ≡ place + 1 = omega arith in ap (λ n. take n path.via) same ∙ take_got path.via place hub hub_at

    links_after : take (place + 1 + 1) links ≡ take (place + 1) links ++ more ∷ []
    links_after = take_got links (place + 1) more more_at

    feeds_long : length (take place path.feeds) ≡ place
    feeds_long = length-take-le place path.feeds (omega (arith, slice_get_within path.feeds place last last_at))

    long : length (take place path.via) ≡ length (take place path.feeds)
    long = length-take-le place path.via (omega (arith, slice_get_within path.via place hub hub_at)) ∙ sym feeds_long

    size : length (take (place + 1) links) ≡ suc (length (take place path.feeds))
    size =
        let first : length (take (place + 1) links) ≡ place + 1 = length-take-le (place + 1) links (omega (arith, slice_get_within links (place + 1) more more_at)) in
        omega (arith, first, feeds_long)

    over_next : first_ways mapping links path (place + 1 + 1) ≡ longer_ways (place_of mapping last hub) (place_of mapping next hub) more (first_ways mapping links path (place + 1))
    over_next =
        (λ i. filter (λ way. are_linked mapping (feeds_after i) (via_after i) (map (λ (link : KeyedRow). link.row) way)) (choices (links_after i)))
        ∙ next_ways mapping (take place path.feeds) last next hub (take place path.via) long (take (place + 1) links) more size
        ∙ sym (ap (longer_ways (place_of mapping last hub) (place_of mapping next hub) more)
        (λ i. filter (λ way. are_linked mapping (feeds_before i) (via_before i) (map (λ (link : KeyedRow). link.row) way)) (choices (take (place + 1) links))))

    -- the ways along one feed more
    pub feed_more : (ways made : List (List KeyedRow)) → made ≡ longer_ways (place_of mapping last hub) (place_of mapping next hub) more ways → length made ≤ most_path_rows → AreFirstWays mapping links path (place + 1) ways
        → AreFirstWays mapping links path (place + 1 + 1) made
    feed_more ways made is few before = record { ways_are = made_are; few = all_few }
      where
        made_are : made ≡ first_ways mapping links path (place + 1 + 1)
        made_are = is ∙ ap (longer_ways (place_of mapping last hub) (place_of mapping next hub) more) before.ways_are ∙ sym over_next

        all_few : (k : ℕ) → 1 ≤ k → k ≤ place + 1 + 1 → length (first_ways mapping links path k) ≤ most_path_rows
        all_few k some within =
            elim (cases_lt (place + 1) k) [
              | inl last ↦
                  let same : place + 1 + 1 ≡ k = omega (arith, last, within) in
                  subst (λ n. length (first_ways mapping links path n) ≤ most_path_rows) same (subst (λ (ways : List (List KeyedRow)). length ways ≤ most_path_rows) made_are few)
              | inr earlier ↦ before.few k some earlier
            ]

    -- they are too many
    pub more_too_many : (ways : List (List KeyedRow)) → most_path_rows < length (longer_ways (place_of mapping last hub) (place_of mapping next hub) more ways) → AreFirstWays mapping links path (place + 1) ways
        → HasTooManyWays mapping links path
    more_too_many ways many before = record {
      count = place + 1 + 1;
      some = omega arith;
      within = let under = slice_get_within path.feeds (place + 1) next next_at in omega (arith, under);
      many = subst (λ (ways : List (List KeyedRow)). most_path_rows < length ways) (ap (longer_ways (place_of mapping last hub) (place_of mapping next hub) more) before.ways_are ∙ sym over_next) many;
    }

  all_feeds : take (length path.via + 1) path.feeds ≡ path.feeds
  all_feeds = ap (λ n. take n path.feeds) one_less ∙ take-length path.feeds

  all_via : take (length path.via + 1 - 1) path.via ≡ path.via
  all_via = let same : length path.via + 1 - 1 ≡ length path.via = omega arith in ap (λ n. take n path.via) same ∙ take-length path.via

  all_links : take (length path.via + 1) links ≡ links
  all_links = ap (λ n. take n links) (one_less ∙ sym as_many) ∙ take-length links

  -- the ways along all feeds
  pub whole_ways : (ways : List (List KeyedRow)) → AreFirstWays mapping links path (length path.via + 1) ways
      → ways ≡ filter (λ way. are_linked mapping path.feeds path.via (map (λ (link : KeyedRow). link.row) way)) (choices links)
  whole_ways ways are = are.ways_are ∙ (λ i. filter (λ way. are_linked mapping (all_feeds i) (all_via i) (map (λ (link : KeyedRow). link.row) way)) (choices (all_links i)))

-- ---- sealed windows

module _ (raw : RawVault) (date : ℕ) (path : PathDef) (hashes : Hashes) (sealed : List Window) (zeros : HasZeroKeys hashes) (has : HasSealed hashes sealed raw) (valid : is_valid raw.mapping ≡ true) (place : ℕ)
    (at : slice_get raw.mapping.paths place ≡ Some path) where
  pub one_less : length path.via + 1 ≡ length path.feeds
  one_less = (valid_path raw.mapping valid place path at).one_less

  abbrev is_more : ℕ → Bool
  is_more n = nat_lt most_path_rows (length (prefix_rows raw.mapping (contents sealed date) path n))

  module _ (links : List (List KeyedRow)) (as_many : (n : ℕ) → 1 ≤ n → n ≤ length path.feeds → length (first_ways raw.mapping links path n) ≡ length (prefix_rows raw.mapping (contents sealed date) path n)) where
    -- no first steps give too many rows
    pub ways_fit : (ways : List (List KeyedRow)) → AreFirstWays raw.mapping links path (length path.via + 1) ways → is_path_too_large raw.mapping sealed place date ≡ false
    ways_fit ways are =
        ap (λ o. option_map_or (is_too_large raw.mapping sealed date) o false) at
        ∙ none_pass is_more (range_with_len 1 (length path.feeds)) (λ n n_in.
        let (some, within) = counted (length path.feeds) n n_in in
        let few = are.few n some (omega (arith, one_less, within)) in
        le-ltb most_path_rows (length (prefix_rows raw.mapping (contents sealed date) path n)) (subst (λ size. size ≤ most_path_rows) (as_many n some within) few))

    -- some do
    pub ways_too_many : HasTooManyWays raw.mapping links path → is_path_too_large raw.mapping sealed place date ≡ true
    ways_too_many more =
        ap (λ o. option_map_or (is_too_large raw.mapping sealed date) o false) at
        ∙ some_passes_at is_more (range_with_len 1 (length path.feeds)) more.count (count_there (length path.feeds) more.count more.some more.within)
        (lt-ltb most_path_rows (length (prefix_rows raw.mapping (contents sealed date) path more.count)) (subst (λ size. most_path_rows < size) (as_many more.count more.some more.within) more.many))

  -- ---- the bridge

  abbrev bare_links : ℕ → List KeyedRow
  bare_links feed = map bare (feed_links raw.mapping raw.tables date feed)

  bare_many : (n : ℕ) → 1 ≤ n → n ≤ length path.feeds → length (first_ways raw.mapping (map bare_links path.feeds) path n) ≡ length (prefix_rows raw.mapping (contents sealed date) path n)
  bare_many n some within =
      sym (length-map (first_ways raw.mapping (map bare_links path.feeds) path n) row_along)
      ∙ ap (λ links. length (map row_along (filter (λ way. are_linked raw.mapping (take n path.feeds) (take (n - 1) path.via) (map (λ (link : KeyedRow). link.row) way)) (choices links)))) (take-map bare_links n path.feeds)
      ∙ ap length (along_bare raw.mapping (feed_links raw.mapping raw.tables date) (take n path.feeds) (take n path.feeds) (take (n - 1) path.via))
      ∙ ap (λ (tables : List TableRows). length (bridge_read raw.mapping tables date (take n path.feeds) (take (n - 1) path.via))) has.tables_are
      ∙ prefixes_tell raw.mapping hashes sealed zeros valid has.valid date place path at n some within

  module _ (links : List (List KeyedRow)) (links_are : links ≡ map bare_links path.feeds) where
    bare_as_many : (n : ℕ) → 1 ≤ n → n ≤ length path.feeds → length (first_ways raw.mapping links path n) ≡ length (prefix_rows raw.mapping (contents sealed date) path n)
    bare_as_many n some within = ap (λ links. length (first_ways raw.mapping links path n)) links_are ∙ bare_many n some within

    pub bridge_along : (ways : List (List KeyedRow)) → AreFirstWays raw.mapping links path (length path.via + 1) ways → map row_along ways ≡ bridge raw.mapping hashes sealed place date
    bridge_along ways are =
        ap (map row_along)
        (whole_ways raw.mapping links path (ap length links_are ∙ length-map path.feeds bare_links) one_less ways are
        ∙ ap (λ links. filter (λ way. are_linked raw.mapping path.feeds path.via (map (λ (link : KeyedRow). link.row) way)) (choices links)) links_are)
        ∙ along_bare raw.mapping (feed_links raw.mapping raw.tables date) path.feeds path.feeds path.via
        ∙ ap (λ (tables : List TableRows). bridge_read raw.mapping tables date path.feeds path.via) has.tables_are
        ∙ bridges_tell raw.mapping hashes sealed zeros valid has.valid date place path at

    pub bridge_fits : (ways : List (List KeyedRow)) → AreFirstWays raw.mapping links path (length path.via + 1) ways → is_path_too_large raw.mapping sealed place date ≡ false
    bridge_fits = ways_fit links bare_as_many

    pub bridge_too_many : HasTooManyWays raw.mapping links path → is_path_too_large raw.mapping sealed place date ≡ true
    bridge_too_many = ways_too_many links bare_as_many
