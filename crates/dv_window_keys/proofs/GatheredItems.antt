-- Items that are put behind those so far.
use Rattle.dv_window_keys.proofs.Vocabulary.{Hub, Item, Key, List, None, Option, Some, [], ap, append-nil, append_assoc, arith, drop, drop_all, drop_got, hub_items, length, none_behind, option_to_list, refl, slice_get, sym, ℕ, ◌++◌, ◌+◌, ◌∙◌, ◌∷◌, ◌≡◌, ◌≤◌}

none_left : (feed : ℕ) (hubs : List ℕ) → hub_items feed hubs [] ≡ []
none_left feed [] = refl
none_left feed (hub ∷ hubs) = refl

module _ (feed : ℕ) (hubs : List ℕ) (refs : List Key) (i : ℕ) (before all : List Item) (so_far : before ++ hub_items feed (drop i hubs) (drop i refs) ≡ all) where
  -- behind the last reference there is none
  pub items_ended : length refs ≤ i → before ≡ all
  items_ended end =
      sym (append-nil before)
      ∙ (ap (λ (more : List Item). before ++ more) (sym (none_left feed (drop i hubs)) ∙ ap (hub_items feed (drop i hubs)) (sym (drop_all i refs end))) ∙ so_far)

  -- the key at a place is put behind those before it, where it has a hub
  pub item_put : (key : Key) → slice_get refs i ≡ Some key → (after : List Item) → after ≡ before ++ hub_items feed (option_to_list (slice_get hubs i)) (key ∷ [])
      → after ++ hub_items feed (drop (i + 1) hubs) (drop (i + 1) refs) ≡ all
  item_put key at after made = by (slice_get hubs i) refl made
    where
      rest : List Item
      rest = hub_items feed (drop (i + 1) hubs) (drop (i + 1) refs)

      by : (hub : Option ℕ) → slice_get hubs i ≡ hub → after ≡ before ++ hub_items feed (option_to_list hub) (key ∷ []) → after ++ rest ≡ all
      by None got made =
          let short = none_behind hubs i got in
          let no_rest : rest ≡ [] = ap (λ hubs. hub_items feed hubs (drop (i + 1) refs)) (drop_all (i + 1) hubs (omega (arith, short))) in
          let none : hub_items feed (drop i hubs) (drop i refs) ≡ [] = ap (λ hubs. hub_items feed hubs (drop i refs)) (drop_all i hubs short) in
          (λ j. made j ++ no_rest j) ∙ (append-nil (before ++ []) ∙ (ap (λ (more : List Item). before ++ more) (sym none) ∙ so_far))
      by (Some hub) got made =
          let item : Item = record { parent = Hub hub; refs = key ∷ []; feed = feed } in
          let here : hub_items feed (drop i hubs) (drop i refs) ≡ item ∷ rest = λ j. hub_items feed (drop_got hubs i hub got j) (drop_got refs i key at j) in
          ap (λ (all : List Item). all ++ rest) made ∙ (append_assoc before (item ∷ []) rest ∙ (ap (λ (more : List Item). before ++ more) (sym here) ∙ so_far))
