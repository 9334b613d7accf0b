-- What a join makes row by row, and that it makes the next rows of a bridge.
use Rattle.dv_bridge.proofs.Vocabulary.{BridgeRow, KeyedLink, KeyedRow, LinkRow, List, None, Option, Some, [], ap, append-nil, arith, bare, filter, flat_map, flat_map-append, get_or, is_same_key, joined_rows, key_of, keyed_met, length, length-append, length-flat_map-take, length-map, longer_row}
use Rattle.dv_bridge.proofs.Vocabulary.{map, map-map, meets, met_by, next_rows, refl, row_with, slice_get, sym, take, take_more, with_key, ℕ, ◌++◌, ◌+◌, ◌<◌, ◌∙◌, ◌∷◌, ◌≡◌, ◌≤◌}
use Rattle.dv_bridge.proofs.LongerWays.{filter-map, filter_no}

-- ---- a row more

-- a row with each link that it meets
abbrev rows_with : ℕ → List KeyedLink → BridgeRow → List BridgeRow
rows_with place links row = map (row_with row) (keyed_met (slice_get row.hubs place) links)

module _ (place : ℕ) (links : List KeyedLink) (rows : List BridgeRow) (i : ℕ) (row : BridgeRow) (under : i < length rows) (is : row ≡ get_or rows i row) (made : List BridgeRow) (so_far : made ≡ joined_rows place links (take i rows))
    (met : List KeyedLink) (met_is : met ≡ keyed_met (slice_get row.hubs place) links) where
  pub joined_more : made ++ map (row_with row) met ≡ joined_rows place links (take (i + 1) rows)
  joined_more =
      let here : flat_map (rows_with place links) (row ∷ []) ≡ map (row_with row) met =
      append-nil (rows_with place links row) ∙ ap (map (row_with row)) (sym met_is) in
      rw (so_far, ← here) (sym (flat_map-append (rows_with place links) (take i rows) (row ∷ [])) ∙ ap (joined_rows place links) (sym (take_more rows i row under ∙ ap (λ r. take i rows ++ r ∷ []) (sym is))))

  -- where there is no room for the rows that a row makes, there are too many
  pub too_many : (most : ℕ) → most < length made + length met → most < length (joined_rows place links rows)
  too_many most over =
      let more = length-flat_map-take (rows_with place links) rows i row under in
      let last : length (rows_with place links (get_or rows i row)) ≡ length met = ap (λ r. length (rows_with place links r)) (sym is) ∙ length-map (keyed_met (slice_get row.hubs place) links) (row_with row) ∙ ap length (sym met_is) in
      let first : length made ≡ length (joined_rows place links (take i rows)) = ap length so_far in
      omega (arith, more, last, first, over)

-- where there is room for them, there are not too many
pub few_more : {X : Type 0} (made items : List BridgeRow) (f : X → BridgeRow) (met : List X) (most : ℕ) → items ≡ made → length items + length met ≤ most → length (made ++ map f met) ≤ most
few_more made items f met most same room =
    let long : length items ≡ length made = ap length same in
    omega (arith, length-append made (map f met), length-map met f, long, room)

-- ---- all rows

-- where there is no key, no link is met
pub none_met : (key : Option (List ℕ)) (links : List KeyedLink) → ((x : List ℕ) → key ≡ Some x → ⊥) → [] ≡ keyed_met key links
none_met None links none = sym (filter_no links)
none_met (Some key) links none = absurd (none key refl)

module _ (right : ℕ) (lent : List KeyedRow) (links : List KeyedLink) (are_keyed : (key : List ℕ) → with_key key links ≡ met_by right (Some key) lent) where
  -- the lent links of a key, if there is one, are those that have it at the place
  pub met_told : (key : Option (List ℕ)) → map (λ (one : KeyedLink). one.link.now) (keyed_met key links) ≡ met_by right key lent
  met_told None = ap (map (λ (one : KeyedLink). one.link.now)) (filter_no links) ∙ sym (filter_no lent)
  met_told (Some key) = are_keyed key

  module _ (left : ℕ) (told : List LinkRow) (are_told : lent ≡ map bare told) where
    rows_are : (row : BridgeRow) → rows_with left links row ≡ map (longer_row row) (filter (meets left right row) told)
    rows_are row =
        let key = slice_get row.hubs left in
        sym (map-map (λ (link : KeyedRow). longer_row row link.row) (λ (one : KeyedLink). one.link.now) (keyed_met key links))
        ∙ ap (map (λ (link : KeyedRow). longer_row row link.row))
        (met_told key ∙ ap (met_by right key) are_told ∙ filter-map (λ link. is_same_key key (key_of right link)) bare told)
        ∙ map-map (λ (link : KeyedRow). longer_row row link.row) bare (filter (meets left right row) told)

    pub joined_next : (rows : List BridgeRow) → joined_rows left links rows ≡ next_rows left right told rows
    joined_next [] = refl
    joined_next (row ∷ rows) = rw (rows_are row, joined_next rows) refl
