-- Reference lists and the link rows of them, one of each feed: rows are linked exactly where their lists agree, and the
-- bridge rows over both are one.
use Rattle.dv_bridge.proofs.Vocabulary.{Contains, Contains-cons_here, Contains-cons_there, Hashes, Key, LinkRow, List, Mapping, Some, [], agrees, and_from, and_parts, ap, are_joined_by, are_linked, bridge_row, bytes_eq, bytes_eq-Decides, each_hash, feed_hubs, flat_map, is_place_of_step, is_valid}
use Rattle.dv_bridge.proofs.Vocabulary.{key_eq, key_eq-Decides, keys_at, length, map, option_map, place_of, pointwise, refl, row_over, same_answer, share, slice_get, slice_get-map, sym, true, ℕ, ◌&&◌, ◌++◌, ◌∙◌, ◌∷◌, ◌≡◌}
use Rattle.dv_bridge.proofs.{Choices.AreAlike, Choices.more, Choices.none, KeyPlaces.hub_of_step, KeyPlaces.key_at_place, LinkedFeeds.AreKeysApart, LinkedFeeds.IsRowOf}

module _ (mapping : Mapping) (hashes : Hashes) (lists : ℕ → List (List Key)) where
  -- a reference list of a feed, and the row of it
  pub record IsMatch (feed : ℕ) (refs : List Key) (row : LinkRow) : Type 0 where
    pub within : Contains (lists feed) refs
    pub is : IsRowOf hashes refs row
    pub long : length refs ≡ length (feed_hubs mapping feed)

  abbrev pub AreMatching : List ℕ → List (List Key) → List LinkRow → Type 0
  AreMatching = AreAlike IsMatch

  -- no two keys of a hub that two feeds have in common have one hash key
  abbrev pub AreHubsApart : List ℕ → Type 0
  AreHubsApart feeds =
      (f g hub : ℕ) → Contains feeds f → Contains feeds g → Contains (feed_hubs mapping f) hub → Contains (feed_hubs mapping g) hub
      → AreKeysApart hashes (place_of mapping f hub) (lists f) (place_of mapping g hub) (lists g)

  -- ---- bridge rows

  digests_alike : {feeds : List ℕ} {steps : List (List Key)} {rows : List LinkRow} → AreMatching feeds steps rows → map hashes.hash steps ≡ map (λ (link : LinkRow). link.digest) rows
  digests_alike none = refl
  digests_alike (more first rest) = λ i. sym first.is.digest i ∷ digests_alike rest i

  hubs_alike : {feeds : List ℕ} {steps : List (List Key)} {rows : List LinkRow} → AreMatching feeds steps rows → flat_map (each_hash hashes) steps ≡ flat_map (λ (link : LinkRow). link.hubs) rows
  hubs_alike none = refl
  hubs_alike (more first rest) = λ i. sym first.is.hubs i ++ hubs_alike rest i

  pub row_alike : {feeds : List ℕ} {steps : List (List Key)} {rows : List LinkRow} → AreMatching feeds steps rows → bridge_row hashes (record { steps = steps }) ≡ row_over rows
  row_alike alike = λ i. record { links = digests_alike alike i; hubs = hubs_alike alike i }

  -- ---- tests

  -- two keys are equal exactly where their hash keys are
  same_key : (a b : Key) → (hashes.hash (a ∷ []) ≡ hashes.hash (b ∷ []) → a ≡ b) → (key_eq a b && true) ≡ bytes_eq (hashes.hash (a ∷ [])) (hashes.hash (b ∷ []))
  same_key a b apart =
      let hashed = bytes_eq-Decides (hashes.hash (a ∷ [])) (hashes.hash (b ∷ [])) in
      same_answer (key_eq a b && true) (bytes_eq (hashes.hash (a ∷ [])) (hashes.hash (b ∷ [])))
      (λ e. hashed.1 (ap (λ key. hashes.hash (key ∷ [])) ((key_eq-Decides a b).0 (and_parts (key_eq a b) true e).0)))
      (λ e. and_from (key_eq a b) true ((key_eq-Decides a b).1 (apart (hashed.0 e))) refl)

  -- a row has, at each place, the hash key of the key there
  hash_at : (refs : List Key) (row : LinkRow) (place : ℕ) (key : Key) → IsRowOf hashes refs row → slice_get refs place ≡ Some key → slice_get row.hubs place ≡ Some (hashes.hash (key ∷ []))
  hash_at refs row place key is at =
      ap (λ hubs. slice_get hubs place) is.hubs ∙ slice_get-map (λ key. hashes.hash (key ∷ [])) refs place ∙ ap (option_map (λ key. hashes.hash (key ∷ []))) at

  module _ (valid : is_valid mapping ≡ true) where
    -- rows share a hash key of a hub exactly where their lists have the same key of it
    shared : (f g hub : ℕ) (a b : List Key) (p q : LinkRow) → IsMatch f a p → IsMatch g b q → is_place_of_step mapping hub f ≡ true → is_place_of_step mapping hub g ≡ true
        → AreKeysApart hashes (place_of mapping f hub) (lists f) (place_of mapping g hub) (lists g)
        → pointwise key_eq (keys_at hub (feed_hubs mapping f) a) (keys_at hub (feed_hubs mapping g) b) ≡ share mapping hub f g p q
    shared f g hub a b p q first next left right apart =
        let (k, k_at, k_only) = key_at_place mapping valid hub f left a first.long in
        let (l, l_at, l_only) = key_at_place mapping valid hub g right b next.long in
        let k_hash = hash_at a p (place_of mapping f hub) k first.is k_at in
        let l_hash = hash_at b q (place_of mapping g hub) l next.is l_at in
        rw (k_only, l_only, k_hash, l_hash) (same_key k l (apart a b k l first.within next.within k_at l_at))

    pub linked_alike : (via : List ℕ) {feeds : List ℕ} {steps : List (List Key)} {rows : List LinkRow} → AreMatching feeds steps rows → are_joined_by mapping feeds via ≡ true → AreHubsApart feeds
        → agrees mapping feeds via steps ≡ are_linked mapping feeds via rows
    linked_alike via none joined apart = refl
    linked_alike via (more first none) joined apart = refl
    linked_alike [] (more first (more next rest)) joined apart = refl
    linked_alike (hub ∷ via) (more {f = f} {x = a} {y = p} first (more {f = g} {x = b} {y = q} {feeds = feeds} next rest)) joined apart =
        let (ends, others) = and_parts (is_place_of_step mapping hub f && is_place_of_step mapping hub g) (are_joined_by mapping (g ∷ feeds) via) joined in
        let (left, right) = and_parts (is_place_of_step mapping hub f) (is_place_of_step mapping hub g) ends in
        let keys_apart =
        apart f g hub (Contains-cons_here f (g ∷ feeds)) (Contains-cons_there f (g ∷ feeds) g (Contains-cons_here g feeds)) (hub_of_step mapping valid hub f left) (hub_of_step mapping valid hub g right) in
        let here = shared f g hub a b p q first next left right keys_apart in
        let behind = linked_alike via (more next rest) others (λ i j h i_in j_in. apart i j h (Contains-cons_there f (g ∷ feeds) i i_in) (Contains-cons_there f (g ∷ feeds) j j_in)) in
        λ i. here i && behind i
