-- The ways that ends make, step by step.
use Rattle.dv_bridge.proofs.Vocabulary.{Bor, Joint, KeyedLink, KeyedRow, List, None, Option, Some, [], ap, append_assoc, arith, drop, drop_more, end_of, ends_from, flat_map, get_or, key_of, last_key, length, length-append, length-map, links_met, longer_ways, map, map-append, map-map, met_by}
use Rattle.dv_bridge.proofs.Vocabulary.{option_map, refl, slice_get, slice_get-map, sym, take, take-length, take_more, unwrap_or, unwrap_or-slice_get, ways_behind, ways_by, ways_of, with_key, ℕ, ◌++◌, ◌+◌, ◌<◌, ◌∙◌, ◌∷◌, ◌≡◌, ◌≤◌}
use Rattle.dv_bridge.proofs.{JoinSteps.met_told, LongerWays.last_key-snoc, LongerWays.map_same}

-- ---- ways by their ends

ways_behind-snoc : (ways : List (List KeyedRow)) (steps : List (List Joint)) (ends : List Joint) → ways_behind ways (steps ++ ends ∷ []) ≡ ways_by (ways_behind ways steps) ends
ways_behind-snoc ways [] ends = refl
ways_behind-snoc ways (step ∷ steps) ends = ways_behind-snoc (ways_by ways step) steps ends

-- the way with an end
abbrev way_by : List (List KeyedRow) → ℕ × KeyedRow → List KeyedRow
way_by ways end = get_or ways end.0 [] ++ end.1 ∷ []

by_told : (ways : List (List KeyedRow)) (ends : List Joint) → ways_by ways ends ≡ map (way_by ways) (map end_of ends)
by_told ways ends = sym (map-map (way_by ways) end_of ends)

-- those along one feed
pub first_ways : (ends : List Joint) (links : List KeyedRow) → map end_of ends ≡ map (λ link. (0, link)) links → ways_by (ways_of []) ends ≡ map (λ link. link ∷ []) links
first_ways ends links are = by_told ([] ∷ []) ends ∙ ap (map (way_by ([] ∷ []))) are ∙ map-map (way_by ([] ∷ [])) (λ link. (0, link)) links

-- ---- the way with a number

got : {X Y : Type 0} (f : X → Y) (xs : List X) (n : ℕ) (d : Y) → get_or (map f xs) n d ≡ unwrap_or (option_map f (slice_get xs n)) d
got f xs n d = sym (unwrap_or-slice_get (map f xs) n d) ∙ ap (λ o. unwrap_or o d) (slice_get-map f xs n)

module _ (ways : List (List KeyedRow)) (ends : List Joint) (n : ℕ) where
  pub way_there : (end : Joint) → slice_get ends n ≡ Some end → get_or (ways_by ways ends) n [] ≡ get_or ways end.before [] ++ end.link.now ∷ []
  way_there end at = got (λ (end : Joint). get_or ways end.before [] ++ end.link.now ∷ []) ends n [] ∙ ap (λ o. unwrap_or (option_map (λ (end : Joint). get_or ways end.before [] ++ end.link.now ∷ []) o) []) at

  pub no_way : slice_get ends n ≡ None → get_or (ways_by ways ends) n [] ≡ []
  no_way past = got (λ (end : Joint). get_or ways end.before [] ++ end.link.now ∷ []) ends n [] ∙ ap (λ o. unwrap_or (option_map (λ (end : Joint). get_or ways end.before [] ++ end.link.now ∷ []) o) []) past

-- where there is none
pub none_told : (o : Option (Bor Joint)) (told : Option Joint) → ((end : Bor Joint) → o ≡ Some end → ⊥) → option_map (λ (end : Bor Joint). end.now) o ≡ told → told ≡ None
none_told None told none is = sym is
none_told (Some end) told none is = absurd (none end refl)

-- the last feed
pub last_step : (steps : List (List Joint)) (n : ℕ) (ends : List Joint) → n + 1 ≡ length steps → ends ≡ get_or steps n ends → ways_of steps ≡ ways_by (ways_of (take n steps)) ends
last_step steps n ends last is =
    let whole : take n steps ++ ends ∷ [] ≡ steps =
    ap (λ step. take n steps ++ step ∷ []) is ∙ sym (take_more steps n ends (omega (arith, last))) ∙ ap (λ k. take k steps) last ∙ take-length steps in
    ap ways_of (sym whole) ∙ ways_behind-snoc ([] ∷ []) (take n steps) ends

-- ---- one feed more

behind_front : {X : Type 0} (front : List X) (x d : X) (xs : List X) → get_or (front ++ x ∷ xs) (length front) d ≡ x
behind_front [] x d xs = refl
behind_front (y ∷ front) x d xs = behind_front front x d xs

-- the ends with the links that each way meets
told_ends : (meet : List KeyedRow → List KeyedRow) (front ways : List (List KeyedRow)) (n : ℕ) → n ≡ length front
    → map (way_by (front ++ ways)) (ends_from n (map meet ways)) ≡ flat_map (λ way. map (λ link. way ++ link ∷ []) (meet way)) ways
told_ends meet front [] n is = refl
told_ends meet front (way ∷ ways) n is =
    let all = front ++ way ∷ ways in
    let this : get_or all n [] ≡ way = ap (λ k. get_or all k []) is ∙ behind_front front way [] ways in
    let same : (front ++ way ∷ []) ++ ways ≡ all = append_assoc front (way ∷ []) ways in
    let size : n + 1 ≡ length (front ++ way ∷ []) = omega (arith, is, length-append front (way ∷ [])) in
    let here : map (way_by all) (map (λ link. (n, link)) (meet way)) ≡ map (λ link. way ++ link ∷ []) (meet way) =
    map-map (way_by all) (λ link. (n, link)) (meet way) ∙ ap (λ (before : List KeyedRow). map (λ link. before ++ link ∷ []) (meet way)) this in
    let rest = ap (λ (ways_all : List (List KeyedRow)). map (way_by ways_all) (ends_from (n + 1) (map meet ways))) (sym same) ∙ told_ends meet (front ++ way ∷ []) ways (n + 1) size in
    map-append (way_by all) (map (λ link. (n, link)) (meet way)) (ends_from (n + 1) (map meet ways)) ∙ (λ i. here i ++ rest i)

module _ (left right : ℕ) (links : List KeyedRow) (keyed : List KeyedLink) (are_keyed : (key : List ℕ) → with_key key keyed ≡ met_by right (Some key) links) (earlier : List (List KeyedRow)) (last : List Joint) where
  abbrev ways : List (List KeyedRow)
  ways = ways_by earlier last

  -- the links that ends meet are those that their ways go on with
  met_are : map (links_met left keyed) last ≡ map (λ way. met_by right (last_key left way) links) ways
  met_are =
      map_same (links_met left keyed) (λ (end : Joint). met_by right (last_key left (get_or earlier end.before [] ++ end.link.now ∷ [])) links) last
      (λ end. met_told right links keyed are_keyed (key_of left end.link.now) ∙ ap (λ key. met_by right key links) (sym (last_key-snoc left (get_or earlier end.before []) end.link.now)))
      ∙ sym (map-map (λ way. met_by right (last_key left way) links) (λ (end : Joint). get_or earlier end.before [] ++ end.link.now ∷ []) last)

  ends_are : map (way_by ways) (ends_from 0 (map (links_met left keyed) last)) ≡ longer_ways left right links ways
  ends_are = ap (λ met. map (way_by ways) (ends_from 0 met)) met_are ∙ told_ends (λ way. met_by right (last_key left way) links) [] ways 0 refl

  -- the ways that go on
  pub gone_on : (steps : List (List Joint)) (ends : List Joint) → earlier ≡ ways_of steps → map end_of ends ≡ ends_from 0 (map (links_met left keyed) last)
      → ways_by (ways_of (steps ++ last ∷ [])) ends ≡ longer_ways left right links (ways_by earlier last)
  gone_on steps ends before are =
      ap (λ before. ways_by before ends) (ways_behind-snoc ([] ∷ []) steps last ∙ ap (λ before. ways_by before last) (sym before))
      ∙ by_told ways ends ∙ ap (map (way_by ways)) are ∙ ends_are

  -- they are as many as the ends
  pub as_many : length (longer_ways left right links (ways_by earlier last)) ≡ length (ends_from 0 (map (links_met left keyed) last))
  as_many = ap length (sym ends_are) ∙ length-map (ends_from 0 (map (links_met left keyed) last)) (way_by ways)

-- ---- an end more

module _ (meet : Joint → List KeyedRow) (ends : List Joint) (number : ℕ) (end : Joint) (under : number < length ends) (is : end ≡ get_or ends number end) (made : List Joint)
    (so_far : map end_of made ++ ends_from number (map meet (drop number ends)) ≡ ends_from 0 (map meet ends)) where
  first_behind : ends_from number (map meet (drop number ends)) ≡ map (λ link. (number, link)) (meet end) ++ ends_from (number + 1) (map meet (drop (number + 1) ends))
  first_behind = ap (λ rest. ends_from number (map meet rest)) (drop_more ends number end under ∙ ap (λ first. first ∷ drop (number + 1) ends) (sym is))

  pub ends_more : (more : List Joint) → map end_of more ≡ map end_of made ++ map (λ link. (number, link)) (meet end) → map end_of more ++ ends_from (number + 1) (map meet (drop (number + 1) ends)) ≡ ends_from 0 (map meet ends)
  ends_more more are =
      ap (λ front. front ++ ends_from (number + 1) (map meet (drop (number + 1) ends))) are
      ∙ append_assoc (map end_of made) (map (λ link. (number, link)) (meet end)) (ends_from (number + 1) (map meet (drop (number + 1) ends)))
      ∙ ap (λ rest. map end_of made ++ rest) (sym first_behind) ∙ so_far

-- where there is room for them, there are not too many
pub ends_few : {X : Type 0} (made more items : List Joint) (met : List X) (f : X → ℕ × KeyedRow) (most : ℕ) → items ≡ made → map end_of more ≡ map end_of made ++ map f met → length items + length met ≤ most → length more ≤ most
ends_few made more items met f most same are room =
    let long = ap length are in
    let both = length-append (map end_of made) (map f met) in
    let new = length-map more end_of in
    let old = length-map made end_of in
    let told = length-map met f in
    let lent : length items ≡ length made = ap length same in
    omega (arith, long, both, new, old, told, lent, room)
