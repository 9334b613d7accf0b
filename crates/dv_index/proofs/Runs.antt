-- Rows with an index of the first ones and another one of the rest: what is looked up in both is what is looked up in all.
use Rattle.dv_index.proofs.Vocabulary.{AreEntries, AreRuns, Bool, Contains, Contains-append_right, Entry, IsPermutation-refl, List, None, Option, Place, Some, [], and_from, and_parts, ap, append-nil, are_in_load_order, arith, bytes_eq, cases_lt, drop, drop-take}
use Rattle.dv_index.proofs.Vocabulary.{drop_all, false, find-append, fits_at, get_or, get_or-append-add, get_or_append_left, inl, inr, last_of, latest_at, length, length-append, length-drop, length-map, length-take, list_all, list_all-append, nat_le, nat_tests, option_map, option_or, parents_of}
use Rattle.dv_index.proofs.Vocabulary.{passes_at, refl, reverse, reverse-append, slice_get, slice_get-get_or, sym, take, take-append-add, take-append-le, take-map, take_all, true, ℕ, ◌&&◌, ◌++◌, ◌+◌, ◌-◌, ◌<◌, ◌==◌, ◌∙◌, ◌∷◌, ◌≡◌, ◌≤◌}
use Rattle.dv_index.proofs.{EntryOrder.entries_length, Latest.some_row}

-- ---- the parts

-- an index of no rows
pub no_entries : AreEntries [] []
no_entries = record {
  index = record { each = IsPermutation-refl []; ordered = λ k d low under. absurd (omega arith) };
  each = λ k d under. absurd (omega arith);
}

module _ {X : Type 0} (place : X → Place) (rows : List X) (index recent : List Entry) (is : AreRuns place rows index recent) where
  -- no more entries than rows
  pub runs_within : length index ≤ length rows
  runs_within =
      let first = take (length index) rows in
      omega (arith, entries_length (parents_of place first) index is.older, length-map first (λ row. (place row).parent), length-take (length index) rows)

  -- as many entries as rows
  pub runs_length : length index + length recent ≡ length rows
  runs_length =
      let rest = drop (length index) rows in
      let within = runs_within in
      omega (arith, within, entries_length (parents_of place rest) recent is.newer, length-map rest (λ row. (place row).parent), length-drop (length index) rows)

  -- the index of the first rows, by the parents of all
  pub older_entries : AreEntries (take (length index) (parents_of place rows)) index
  older_entries = rw take-map is.older

  -- the index of the first rows, where these are all
  pub whole_entries : length index ≡ length rows → AreEntries (parents_of place rows) index
  whole_entries long = rw (take_all (length index) rows (omega (arith, long))) at is.older

-- an index of all rows
pub whole_runs : {X : Type 0} (place : X → Place) (rows : List X) (index : List Entry) → AreEntries (parents_of place rows) index → AreRuns place rows index []
whole_runs place rows index is =
    let long : length index ≡ length rows = entries_length (parents_of place rows) index is ∙ length-map rows (λ row. (place row).parent) in
    record {
      older = rw (take_all (length index) rows (omega (arith, long))) is;
      newer = rw (drop_all (length index) rows (omega (arith, long))) no_entries;
    }

-- indexes of the first of some rows
module _ {X : Type 0} (place : X → Place) (rows : List X) (index recent : List Entry) (is : AreRuns place (take (length index + length recent) rows) index recent) where
  pub first_newer : AreEntries (take (length recent) (parents_of place (drop (length index) rows))) recent
  first_newer = rw take-map (rw (drop-take (length index) (length recent) rows) at is.newer)

-- ---- load dates

module _ {X : Type 0} (place : X → Place) (newer : List X) where
  pub order_older : (older : List X) → are_in_load_order place (older ++ newer) ≡ true → are_in_load_order place older ≡ true
  order_older [] e = refl
  order_older (row ∷ rows) e =
      let (first, rest) = and_parts _ (are_in_load_order place (rows ++ newer)) e in
      let each = rw (list_all-append (λ other. nat_le (place row).load (place other).load) rows newer) at first in
      and_from _ _ (and_parts _ (list_all (λ other. nat_le (place row).load (place other).load) newer) each).0 (order_older rows rest)

  pub order_newer : (older : List X) → are_in_load_order place (older ++ newer) ≡ true → are_in_load_order place newer ≡ true
  order_newer [] e = e
  order_newer (row ∷ rows) e = order_newer rows (and_parts _ (are_in_load_order place (rows ++ newer)) e).1

  -- no older row is later than a newer one
  older_first : (older : List X) (row : X) → are_in_load_order place (older ++ newer) ≡ true → Contains newer row → list_all (λ other. nat_le (place other).load (place row).load) older ≡ true
  older_first [] row e has = refl
  older_first (first ∷ rows) row e has =
      let (each, rest) = and_parts _ (are_in_load_order place (rows ++ newer)) e in
      and_from _ _ (passes_at (λ other. nat_le (place first).load (place other).load) (rows ++ newer) row each (Contains-append_right rows newer row has)) (older_first rows row rest has)

-- ---- look-ups

both_true : (a b : Bool) → b ≡ true → (a && b) ≡ a
both_true true b e = e
both_true false b e = refl

module _ {X : Type 0} (place : X → Place) (parent : List ℕ) where
  -- the latest row is among the newer ones, and else among the older ones
  pub latest_parts : (older newer : List X) (date : ℕ) → latest_at place (older ++ newer) parent date ≡ option_or (latest_at place newer parent date) (latest_at place older parent date)
  latest_parts older newer date =
      rw (reverse-append older newer) (find-append (λ row. bytes_eq (place row).parent parent && nat_le (place row).load date) (reverse newer) (reverse older))

  last_parts : (older newer : List X) → last_of place (older ++ newer) parent ≡ option_or (last_of place newer parent) (last_of place older parent)
  last_parts older newer = rw (reverse-append older newer) (find-append (λ row. bytes_eq (place row).parent parent) (reverse newer) (reverse older))

  -- where no row is later than a date, the latest one is the last one
  latest_is_last : (rows : List X) (date : ℕ) → list_all (λ row. nat_le (place row).load date) rows ≡ true → latest_at place rows parent date ≡ last_of place rows parent
  latest_is_last [] date early = refl
  latest_is_last (row ∷ rows) date early =
      let (first, rest) = and_parts _ (list_all (λ row. nat_le (place row).load date) rows) early in
      rw (latest_parts (row ∷ []) rows date, last_parts (row ∷ []) rows, latest_is_last rows date rest, both_true (bytes_eq (place row).parent parent) _ first) refl

-- a row that is read from one of two places
pub mapped_or : {X Y : Type 0} (f : X → Y) (a b : Option X) → option_map f (option_or a b) ≡ option_or (option_map f a) (option_map f b)
mapped_or f None b = refl
mapped_or f (Some x) b = refl

-- ---- how many rows fit

module _ {X : Type 0} (place : X → Place) (fits : Option X → X → Bool) (older newer : List X) where
  -- an older row fits as it does where there are no newer ones
  pub older_fits : (k : ℕ) → k < length older → fits_at place fits older k ≡ fits_at place fits (older ++ newer) k
  older_fits k under =
      let d = some_row older k under in
      let there = slice_get-get_or older k d under in
      let here : slice_get (older ++ newer) k ≡ Some (get_or older k d) =
      slice_get-get_or (older ++ newer) k d (omega (arith, length-append older newer)) ∙ ap Some (get_or_append_left older newer d k under) in
      rw (there, here, take-append-le k older newer (omega arith)) refl

  -- a newer row fits as it does beside the last row of its parent among the newer ones before it, and else among the older ones
  pub newer_fits : are_in_load_order place (older ++ newer) ≡ true → (k : ℕ) (row : X) → k < length newer → row ≡ get_or newer k row
      → fits (option_or (last_of place (take k newer) (place row).parent) (latest_at place older (place row).parent (place row).load)) row ≡ fits_at place fits (older ++ newer) (length older + k)
  newer_fits order k row under read =
      let there : slice_get (older ++ newer) (length older + k) ≡ Some row =
      slice_get-get_or (older ++ newer) (length older + k) row (omega (arith, length-append older newer)) ∙ ap Some (get_or-append-add older newer k row ∙ sym read) in
      let has : Contains newer row = (k, under, sym read) in
      let last = latest_is_last place (place row).parent older (place row).load (older_first place newer older row order has) in
      rw (there, take-append-add older newer k, last_parts place (place row).parent older (take k newer), last) refl

  -- what fits among the older ones and then among the newer ones
  pub fit_parts : (more : ℕ) → ((k : ℕ) → k < length older → fits_at place fits older k ≡ true) → ((k : ℕ) → k < more → fits_at place fits (older ++ newer) (length older + k) ≡ true)
      → (k : ℕ) → k < length older + more → fits_at place fits (older ++ newer) k ≡ true
  fit_parts more first second k under =
      elim (cases_lt k (length older)) [
        | inl before ↦ sym (older_fits k before) ∙ first k before
        | inr behind ↦ let at : length older + (k - length older) ≡ k = omega arith in rw at at (second (k - length older) (omega arith))
      ]

-- ---- whether there are more rows

pub some_more : {X : Type 0} (ys : List X) → (length ys == 0) ≡ false → 0 < length ys
some_more ys e = grind (arith, nat_tests)

pub none_more : {X : Type 0} (xs ys : List X) → (length ys == 0) ≡ true → xs ≡ xs ++ ys
none_more xs [] e = sym (append-nil xs)
none_more xs (y ∷ ys) e = let none : length ys + 1 ≡ 0 = grind (arith, nat_tests) in absurd (omega arith)
