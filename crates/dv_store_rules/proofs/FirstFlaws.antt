-- The first flaw of rows, told from a place that breaks a rule and the rows before it, which break none.
use Rattle.dv_store_rules.proofs.Vocabulary.{AreClear, Breaks, Fault, Flaw, IsFirst, List, None, Option, Some, TellsFlaw, [], ap, append-nil, append_assoc, arith, cases_lt, first_along, first_flaw, flaw_behind, get_or-take, get_or_from_slice_get, inl, inr, length, length-append, length-take-le}
use Rattle.dv_store_rules.proofs.Vocabulary.{refl, same_Some, slice_get, slice_get-get_or, slice_get_within, subst, suc, sym, take, take-take, zero, ℕ, ◌++◌, ◌+◌, ◌<◌, ◌∙◌, ◌∷◌, ◌≡◌, ◌≤◌}

-- a row of first rows is there
pub got_taken : {R : Type 0} (rows : List R) (count place : ℕ) (row : R) → place < count → slice_get (take count rows) place ≡ Some row → slice_get rows place ≡ Some row
got_taken [] count place row under there = by count there
  where
    by : (count : ℕ) → slice_get (take count []) place ≡ Some row → slice_get [] place ≡ Some row
    by zero there = there
    by (suc count) there = there
got_taken (first ∷ rows) zero place row under there = absurd (omega arith)
got_taken (first ∷ rows) (suc count) zero row under there = there
got_taken (first ∷ rows) (suc count) (suc place) row under there = got_taken rows count place row (omega arith) there

module _ {R : Type 0} (rule_of : List R → R → Option ℕ) where
  one_more : (before : List R) (row : R) (rows : List R) (place : ℕ) → (before ++ row ∷ []) ++ take place rows ≡ before ++ take (suc place) (row ∷ rows)
  one_more before row rows place = append_assoc before (row ∷ []) (take place rows)

  passed : (before : List R) (row : R) (rows : List R) → rule_of before row ≡ None → first_along (flaw_behind rule_of) before (row ∷ rows) ≡ first_along (flaw_behind rule_of) (before ++ row ∷ []) rows
  passed before row rows none = rw none refl

  none_along : (before rows : List R) → ((place : ℕ) (row : R) → place < length rows → slice_get rows place ≡ Some row → rule_of (before ++ take place rows) row ≡ None) → first_along (flaw_behind rule_of) before rows ≡ None
  none_along before [] clear = refl
  none_along before (row ∷ rows) clear =
      passed before row rows (rw append-nil at (clear 0 row (omega arith) refl))
      ∙ none_along (before ++ row ∷ []) rows (λ place other under there. rw (one_more before row rows place) (clear (suc place) other (omega arith) there))

  found_along : (before rows : List R) (place rule : ℕ) (row : R)
      → ((earlier : ℕ) (other : R) → earlier < place → slice_get rows earlier ≡ Some other → rule_of (before ++ take earlier rows) other ≡ None)
      → slice_get rows place ≡ Some row → rule_of (before ++ take place rows) row ≡ Some rule → first_along (flaw_behind rule_of) before rows ≡ Some (record { row = length before + place + 1; rule = rule })
  found_along before [] place rule row clear there breaks = cc
  found_along before (first ∷ rows) zero rule row clear there breaks =
      let same : first ≡ row = cc in
      let here : rule_of before first ≡ Some rule = rw same (rw append-nil at breaks) in
      let number : length before + 1 ≡ length before + 0 + 1 = omega arith in
      rw here (ap (λ n. Some (record { row = n; rule = rule })) number)
  found_along before (first ∷ rows) (suc place) rule row clear there breaks =
      let number : length (before ++ first ∷ []) + place + 1 ≡ length before + suc place + 1 = omega (arith, length-append before (first ∷ [])) in
      passed before first rows (rw append-nil at (clear 0 first (omega arith) refl))
      ∙ found_along (before ++ first ∷ []) rows place rule row
      (λ earlier other under at. rw (one_more before first rows earlier) (clear (suc earlier) other (omega arith) at)) there (rw (one_more before first rows place) breaks)
      ∙ ap (λ n. Some (record { row = n; rule = rule })) number

  -- no row breaks a rule
  pub no_flaw : (rows : List R) → AreClear rule_of rows (length rows) → first_flaw rule_of rows ≡ None
  no_flaw rows clear = none_along [] rows clear

  -- the row at a place is the first
  pub flaw_is : (rows : List R) (flaw : Flaw) → IsFirst rule_of rows flaw → first_flaw rule_of rows ≡ Some flaw
  flaw_is rows flaw first =
      let (row, there, breaks) = first.breaks in
      let number : 0 + first.place + 1 ≡ flaw.row = omega (arith, first.numbered) in
      found_along [] rows first.place flaw.rule row first.clear there breaks ∙ ap (λ n. Some (record { row = n; rule = flaw.rule })) number

  -- ---- first rows

  inside : (rows : List R) (count place : ℕ) → place < count → place < length rows → place < length (take count rows)
  inside [] count place under within = absurd (omega arith)
  inside (row ∷ rows) zero place under within = absurd (omega arith)
  inside (row ∷ rows) (suc count) zero under within = omega arith
  inside (row ∷ rows) (suc count) (suc place) under within = let rest = inside rows count place (omega arith) (omega arith) in omega arith

  still_there : (rows : List R) (count place : ℕ) (row : R) → place < count → slice_get rows place ≡ Some row → slice_get (take count rows) place ≡ Some row
  still_there rows count place row under there =
      slice_get-get_or (take count rows) place row (inside rows count place under (slice_get_within rows place row there))
      ∙ ap Some (get_or-take count rows place row under ∙ get_or_from_slice_get rows place row row there)

  -- what is clear among first rows is clear
  pub clear_taken : (rows : List R) (count all : ℕ) → count ≤ all → AreClear rule_of (take all rows) count → AreClear rule_of rows count
  clear_taken rows count all le clear place row under there =
      rw (take-take place all rows (omega arith)) at (clear place row under (still_there rows all place row (omega arith) there))

  -- a row that is the first to break a rule among first rows is the first
  pub first_taken : (rows : List R) (all : ℕ) (flaw : Flaw) → all ≤ length rows → (first : IsFirst rule_of (take all rows) flaw) → (first.place < all) × Breaks rule_of rows first.place flaw.rule
  first_taken rows all flaw le first =
      let (row, there, breaks) = first.breaks in
      let within = slice_get_within (take all rows) first.place row there in
      let under : first.place < all = omega (arith, within, length-take-le all rows le) in
      (under, (row, got_taken rows all first.place row under there, rw (take-take first.place all rows (omega arith)) at breaks))

  pub clear_fewer : (rows : List R) (count all : ℕ) → count ≤ all → AreClear rule_of rows all → AreClear rule_of rows count
  clear_fewer rows count all le clear place row under there = clear place row (omega arith) there

  -- one row more
  pub clear_more : (rows : List R) (count : ℕ) (row : R) → slice_get rows count ≡ Some row → rule_of (take count rows) row ≡ None → AreClear rule_of rows count → AreClear rule_of rows (count + 1)
  clear_more rows count row there none clear place other under at =
      elim (cases_lt place count) [
        | inl before ↦ clear place other before at
        | inr here ↦
            let same : place ≡ count = omega arith in
            let is : other ≡ row = same_Some other row (sym at ∙ ap (slice_get rows) same ∙ there) in
            rw (is, same) none
      ]

-- ---- two rules that are one

module _ {R : Type 0} (told rule : List R → R → Option ℕ) (same : (before : List R) (row : R) → told before row ≡ rule before row) (rows : List R) where
  first_same : first_flaw told rows ≡ first_flaw rule rows
  first_same = λ i. first_flaw (λ before row. same before row i) rows

  pub none_flawed : AreClear told rows (length rows) → first_flaw rule rows ≡ None
  none_flawed clear = sym first_same ∙ no_flaw told rows clear

  pub first_told : (fault : Fault) → TellsFlaw fault (first_flaw told rows) → TellsFlaw fault (first_flaw rule rows)
  first_told fault = subst (TellsFlaw fault) first_same
