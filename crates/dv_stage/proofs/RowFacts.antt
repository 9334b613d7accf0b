-- The fields at places: one place more, and the row by the places of a feed's columns.
use Rattle.dv_stage.proofs.Vocabulary.{FeedDef, IfOk-weaker, IsLayoutOf, Layout, List, None, Option, Some, [], ap, cons_option, fields_at, fields_under, filter_map, filter_map_more, get_or, key_at, key_under, length, map, map-append, norm_field, norm_key, option_and_then, option_to_list}
use Rattle.dv_stage.proofs.Vocabulary.{place_of, places_of, refl, row_at, row_of, slice_get, take, ℕ, ◌++◌, ◌+◌, ◌<◌, ◌∙◌, ◌∷◌, ◌≡◌}

-- what stands at one place more
pub map-filter_map-more : {X Y Z : Type 0} (g : Y → Z) (f : X → Option Y) (xs : List X) (i : ℕ) (d : X) → i < length xs
    → map g (filter_map f (take (i + 1) xs)) ≡ map g (filter_map f (take i xs)) ++ map g (option_to_list (f (get_or xs i d)))
map-filter_map-more g f xs i d small = ap (map g) (filter_map_more f xs i d small) ∙ map-append g (filter_map f (take i xs)) (option_to_list (f (get_or xs i d)))

-- the fields at the places of columns are those under the columns
fields_at-places_of : (fields names columns : List (List ℕ)) → fields_at fields (places_of names columns) ≡ fields_under names fields columns
fields_at-places_of fields names [] = refl
fields_at-places_of fields names (column ∷ columns) = by (place_of names column) (fields_at-places_of fields names columns)
  where
    by : (place : Option ℕ) → fields_at fields (places_of names columns) ≡ fields_under names fields columns
        → filter_map (slice_get fields) (cons_option place (places_of names columns)) ≡ cons_option (option_and_then (slice_get fields) place) (fields_under names fields columns)
    by None more = more
    by (Some place) more = ap (cons_option (slice_get fields place)) more

keys_at-places_of : (fields names : List (List ℕ)) (keys : List (List (List ℕ))) → map (key_at fields) (map (places_of names) keys) ≡ map (key_under names fields) keys
keys_at-places_of fields names [] = refl
keys_at-places_of fields names (columns ∷ keys) =
    let here : key_at fields (places_of names columns) ≡ key_under names fields columns = λ i. record { parts = map norm_key (fields_at-places_of fields names columns i) } in
    rw (here, keys_at-places_of fields names keys) refl

-- the row by a feed's layout is the feed's
pub row_at-layout : (feed : FeedDef) (names : List (List ℕ)) (layout : Layout) (fields : List (List ℕ)) → IsLayoutOf feed names layout → row_at layout fields ≡ row_of feed names fields
row_at-layout feed names layout fields h =
    let refs : map (key_at fields) layout.keys ≡ map (key_under names fields) feed.keys = ap (map (key_at fields)) h.of_keys ∙ keys_at-places_of fields names feed.keys in
    let sub : map norm_field (fields_at fields layout.sub) ≡ map norm_field (fields_under names fields feed.sub) =
    ap (λ places. map norm_field (fields_at fields places)) h.of_sub ∙ ap (map norm_field) (fields_at-places_of fields names feed.sub) in
    let attrs : map norm_field (fields_at fields layout.attrs) ≡ map norm_field (fields_under names fields feed.attrs) =
    ap (λ places. map norm_field (fields_at fields places)) h.of_attrs ∙ ap (map norm_field) (fields_at-places_of fields names feed.attrs) in
    λ i. record { refs = refs i; sub = sub i; attrs = attrs i }

pub ruleset layouts = (IfOk-weaker, row_at-layout)
