-- Steps of gathering what a window's rows bring, and the hash keys of what is delivered.
use Rattle.dv_window_keys.proofs.Vocabulary.{All-from_recursion, AllByRecursion, AreHashed, Delivery, Err, FeedDef, HashedDelivery, Hashes, IfOk, IsKeyOf, Key, Keyed, Link, List, Mapping, None, Ok, Option, Result, Some, [], ap, arith, delivered, deliveries, get_or, hashed_as, is_declared}
use Rattle.dv_window_keys.proofs.Vocabulary.{is_valid, keyed, length, map, map-id, map-map, nat_tests, same_Some, slice_get, slice_get-get_or, subst, suc, sym, true, valid_feed, zero, ℕ, ◌<◌, ◌∙◌, ◌∷◌, ◌≡◌}
use Rattle.dv_window_keys.proofs.WindowFacts as facts

module _ (hashes : Hashes) where
  -- deliveries with their hash keys
  pub all_hashed : {E : Type 0} (items : List Delivery) (made : Result (List HashedDelivery) E) → IfOk made (λ all. map keyed all ≡ map (hashed_as hashes) items)
      → IfOk made (λ all. delivered all ≡ items) × IfOk made (AreHashed hashes)
  all_hashed items (Ok got) is = (
    sym (map-map (λ (k : Keyed). k.delivery) keyed got) ∙ ap (map (λ (k : Keyed). k.delivery)) is ∙ map-map (λ (k : Keyed). k.delivery) (hashed_as hashes) items ∙ map-id items,
    All-from_recursion (λ (item : HashedDelivery). item.digest ≡ hashes.hash item.refs.now) got (each got items is),
  )
    where
      each : (got : List HashedDelivery) (items : List Delivery) → map keyed got ≡ map (hashed_as hashes) items → AllByRecursion (λ (item : HashedDelivery). item.digest ≡ hashes.hash item.refs.now) got
      each [] items e = tt
      each (first ∷ got) [] e = cc
      each (first ∷ got) (item ∷ items) e =
          let here : keyed first ≡ hashed_as hashes item = cc in
          let rest : map keyed got ≡ map (hashed_as hashes) items = cc in
          (ap (λ (k : Keyed). k.digest) here ∙ ap (λ (k : Keyed). hashes.hash k.delivery.refs) (sym here), each got items rest)
  all_hashed items (Err e) is = (tt, tt)

-- a feed's link is in the mapping
pub link_declared : (m : Mapping) → is_valid m ≡ true → (i : ℕ) (feed : FeedDef) → slice_get m.feeds i ≡ Some feed → (link : ℕ) → feed.parent ≡ Link link → link < length m.links
link_declared m valid i feed got link is =
    let declared : is_declared m (Link link) ≡ true = ap (is_declared m) (sym is) ∙ (valid_feed m valid i feed got).declared in
    grind (arith, nat_tests, declared)

-- the element of a loop is the one at its place
pub got_here : {X : Type 0} (xs : List X) (i : ℕ) (x : X) → i < length xs → x ≡ get_or xs i x → slice_get xs i ≡ Some x
got_here xs i x under is = slice_get-get_or xs i x under ∙ ap (λ x. Some x) (sym is)

-- ---- hash keys that are told

-- the key of a list of one is the list's
pub only_key : (hashes : Hashes) (told : Option (List ℕ)) (refs : List Key) → IsKeyOf hashes told refs → length refs ≡ 1
    → (place : ℕ) (key : Key) → slice_get refs place ≡ Some key → IsKeyOf hashes told (key ∷ [])
only_key hashes told [] is single place key got = absurd (omega (arith, single))
only_key hashes told (first ∷ []) is single zero key got = subst (λ key. IsKeyOf hashes told (key ∷ [])) (same_Some first key got) is
only_key hashes told (first ∷ []) is single (suc place) key got = let no : None ≡ Some key = got in cc
only_key hashes told (first ∷ second ∷ refs) is single place key got = absurd (omega (arith, single))
