-- The feeds of a hub, one after another in declared order, and the link of a feed.
use Rattle.dv_print.proofs.Vocabulary.{All, All-push, FeedDef, Hub, HubFeed, Link, List, Mapping, None, Some, [], ap, append-nil, arith, enumerate_from, false, filter, filter-append, is_declared, is_fed_by, is_valid, length, map, map-append, nat_tests, refl, slice_get, suc, sym, take, told, true}
use Rattle.dv_print.proofs.Vocabulary.{valid_feed, zero, ℕ, ◌++◌, ◌+◌, ◌<◌, ◌∙◌, ◌∷◌, ◌≡◌}

-- one item more stands at its place
one_more : {X : Type 0} (k : ℕ) (xs : List X) (n : ℕ) (x : X) → slice_get xs n ≡ Some x → enumerate_from k (take (suc n) xs) ≡ enumerate_from k (take n xs) ++ (k + n, x) ∷ []
one_more k [] n x at = let no : None ≡ Some x = at in cc
one_more {X} k (y ∷ xs) zero x at =
    let same : Some y ≡ Some x = at in
    let is : y ≡ x = cc in
    let place : k ≡ k + 0 = omega arith in
    λ i. (place i, is i) ∷ []
one_more k (y ∷ xs) (suc n) x at =
    let rest = one_more (k + 1) xs n x at in
    let place : k + 1 + n ≡ k + suc n = omega arith in
    ap (λ (later : List _). (k, y) ∷ later) (rest ∙ ap (λ m. enumerate_from (k + 1) (take n xs) ++ (m, x) ∷ []) place)

-- the feeds of a hub among so many first ones
abbrev pub feeds_among : Mapping → ℕ → ℕ → List (ℕ × FeedDef)
feeds_among mapping hub n = filter (λ feed. is_fed_by (Hub hub) (Some feed.1)) (enumerate_from 0 (take n mapping.feeds))

module _ (mapping : Mapping) (hub n : ℕ) (definition : FeedDef) (at : slice_get mapping.feeds n ≡ Some definition) where
  next_all : feeds_among mapping hub (n + 1) ≡ feeds_among mapping hub n ++ filter (λ feed. is_fed_by (Hub hub) (Some feed.1)) ((n, definition) ∷ [])
  next_all =
      let more : n + 1 ≡ suc n = omega arith in
      let place : 0 + n ≡ n = omega arith in
      ap (feeds_among mapping hub) more
      ∙ ap (filter (λ feed. is_fed_by (Hub hub) (Some feed.1))) (one_more 0 mapping.feeds n definition at ∙ ap (λ m. enumerate_from 0 (take n mapping.feeds) ++ (m, definition) ∷ []) place)
      ∙ filter-append (λ feed. is_fed_by (Hub hub) (Some feed.1)) (enumerate_from 0 (take n mapping.feeds)) ((n, definition) ∷ [])

  pub next_fed : is_fed_by (Hub hub) (Some definition) ≡ true → feeds_among mapping hub (n + 1) ≡ feeds_among mapping hub n ++ (n, definition) ∷ []
  next_fed fed = next_all ∙ rw fed refl

  pub next_other : is_fed_by (Hub hub) (Some definition) ≡ false → feeds_among mapping hub (n + 1) ≡ feeds_among mapping hub n
  next_other other = next_all ∙ rw other (append-nil (feeds_among mapping hub n))

-- the list with a feed of the hub at its end
pub fed_pushed : (mapping : Mapping) (hub n : ℕ) (feed : HubFeed) (found : List HubFeed) → slice_get mapping.feeds n ≡ Some feed.definition.now → is_fed_by (Hub hub) (Some feed.definition.now) ≡ true
    → feed.place ≡ n → (map told found ≡ feeds_among mapping hub n) × All (λ (one : HubFeed). slice_get mapping.feeds one.place ≡ Some one.definition.now) found
    → (map told (found ++ feed ∷ []) ≡ feeds_among mapping hub (n + 1)) × All (λ (one : HubFeed). slice_get mapping.feeds one.place ≡ Some one.definition.now) (found ++ feed ∷ [])
fed_pushed mapping hub n feed found at fed place so_far = (
  map-append told found (feed ∷ []) ∙ (λ i. so_far.0 i ++ (place i, feed.definition.now) ∷ []) ∙ sym (next_fed mapping hub n feed.definition.now at fed),
  All-push (λ (one : HubFeed). slice_get mapping.feeds one.place ≡ Some one.definition.now) found feed so_far.1 (ap (slice_get mapping.feeds) place ∙ at),
)

-- a feed's link is in the mapping
pub link_within : (mapping : Mapping) → is_valid mapping ≡ true → (feed : ℕ) (definition : FeedDef) → slice_get mapping.feeds feed ≡ Some definition → (link : ℕ) → definition.parent ≡ Link link → link < length mapping.links
link_within mapping valid feed definition at link parent =
    let declared : is_declared mapping (Link link) ≡ true = ap (is_declared mapping) (sym parent) ∙ (valid_feed mapping valid feed definition at).declared in
    grind (arith, nat_tests, declared)
