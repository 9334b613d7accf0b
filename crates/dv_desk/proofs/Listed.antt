-- A list that becomes JSON item by item.
use Rattle.dv_desk.proofs.Vocabulary.{Array, Data, Global, List, Value, Vec, [], ap, array, get_or, items_of, length, map, map-append, sym, take, take_all, take_more, view, view-Array, ℕ, ◌++◌, ◌+◌, ◌<◌, ◌∙◌, ◌∷◌, ◌≡◌, ◌≤◌}

module _ {A : Type 0} (data_of : A → Data) (xs : List A) (i : ℕ) where
  -- one more
  pub one_more : (default x : A) → i < length xs → x ≡ get_or xs i default → (values more : List Value) (value : Value) → more ≡ values ++ value ∷ [] → view value ≡ data_of x
      → map view values ≡ map data_of (take i xs) → map view more ≡ map data_of (take (i + 1) xs)
  one_more default x within is values more value pushed seen so_far =
      ap (map view) pushed ∙ map-append view values (value ∷ []) ∙ ap (λ l. l ++ view value ∷ []) so_far ∙ ap (λ d. map data_of (take i xs) ++ d ∷ []) (seen ∙ ap data_of is)
      ∙ sym (ap (map data_of) (take_more xs i default within) ∙ map-append data_of (take i xs) (get_or xs i default ∷ []))

  -- all of them
  pub all_listed : (values : Vec Value Global) → length xs ≤ i → map view values.items ≡ map data_of (take i xs) → view (Array values) ≡ array (items_of (map data_of xs))
  all_listed values whole so_far = view-Array values ∙ ap (λ ds. array (items_of ds)) (so_far ∙ ap (map data_of) (take_all i xs whole))
