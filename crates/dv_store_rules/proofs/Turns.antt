-- The first flaw of rows, told from how far a walk over them came and from the first row that doesn't fit the last row of
-- its parent before it.
use Rattle.dv_store_rules.proofs.Vocabulary.{AreClear, Bool, Breaks, Flaw, IfNone, IfSome, IsFirst, List, None, Option, Ordering, Place, Some, [], arith, false, first_flaw, if_broken, if◌then◌else◌, length, length-take-le, most_weight, nat_le, own_rule, plain_rule, refl, slice_get}
use Rattle.dv_store_rules.proofs.Vocabulary.{slice_get_within, sum_by, sum_by_push, sym, take, take_got, true, turn_rule, turning_rule, unwrap_or, weight_rule, ℕ, ◌++◌, ◌+◌, ◌<◌, ◌∙◌, ◌∷◌, ◌≡◌, ◌≤◌}
use Rattle.dv_store_rules.proofs.FirstFlaws.{clear_fewer, clear_taken, first_taken, flaw_is}

-- ---- the weight

module _ {R : Type 0} (weight_of : R → ℕ) (weight : ℕ) (rows : List R) (place sum : ℕ) (row : R) (so_far : sum ≡ weight + sum_by weight_of (take place rows)) where
  weight_with : weight + sum_by weight_of (take place rows ++ row ∷ []) ≡ sum + weight_of row
  weight_with = omega (arith, sum_by_push weight_of (take place rows) row, so_far)

  pub too_heavy : None ≡ (if nat_le (sum + weight_of row) most_weight then Some (sum + weight_of row) else None) → weight_rule weight_of weight (take place rows) row ≡ Some 13
  too_heavy none = rw weight_with (by (nat_le (sum + weight_of row) most_weight) none)
    where
      by : (b : Bool) → None ≡ (if b then Some (sum + weight_of row) else None) → if_broken 13 b ≡ Some 13
      by true e = cc
      by false e = refl

  pub still_light : (more : ℕ) → Some more ≡ (if nat_le (sum + weight_of row) most_weight then Some (sum + weight_of row) else None) → slice_get rows place ≡ Some row
      → (weight_rule weight_of weight (take place rows) row ≡ None) × (more ≡ weight + sum_by weight_of (take (place + 1) rows))
  still_light more some there = rw weight_with (by (nat_le (sum + weight_of row) most_weight) some)
    where
      by : (b : Bool) → Some more ≡ (if b then Some (sum + weight_of row) else None) → (if_broken 13 b ≡ None) × (more ≡ weight + sum_by weight_of (take (place + 1) rows))
      by true e =
          let is : more ≡ sum + weight_of row = cc in
          (refl, rw (take_got rows place row there) (is ∙ sym weight_with))
      by false e = cc

-- ---- without a rule of turns

module _ {R : Type 0} (place : R → Place) (order : R → R → Ordering) (own : R → Bool → Option ℕ) (weight_of : R → ℕ) (weight : ℕ) (rows : List R) where
  abbrev plain : List R → R → Option ℕ
  plain = plain_rule place order own weight_of weight

  pub plain_clear : (count : ℕ) → AreClear (own_rule place order own) rows count → AreClear (weight_rule weight_of weight) rows count → AreClear plain rows count
  plain_clear count owns light at row under there = rw (owns at row under there) (light at row under there)

  pub plain_broken : (at rule : ℕ) → AreClear (own_rule place order own) rows at → AreClear (weight_rule weight_of weight) rows at → Breaks (own_rule place order own) rows at rule
      → first_flaw plain rows ≡ Some (record { row = at + 1; rule = rule })
  plain_broken at rule owns light (row, there, breaks) =
      flaw_is plain rows (record { row = at + 1; rule = rule }) (record { place = at; numbered = refl; clear = plain_clear at owns light; breaks = (row, there, rw breaks refl) })

  pub plain_heavy : (at : ℕ) → AreClear (own_rule place order own) rows (at + 1) → AreClear (weight_rule weight_of weight) rows at → Breaks (weight_rule weight_of weight) rows at 13
      → first_flaw plain rows ≡ Some (record { row = at + 1; rule = 13 })
  plain_heavy at owns light (row, there, breaks) =
      flaw_is plain rows (record { row = at + 1; rule = 13 })
      (record {
        place = at;
        numbered = refl;
        clear = plain_clear at (clear_fewer (own_rule place order own) rows at (at + 1) (omega arith) owns) light;
        breaks = (row, there, rw (owns at row (omega arith) there) breaks);
      })

-- ---- with one

module _ {R : Type 0} (place : R → Place) (order : R → R → Ordering) (own : R → Bool → Option ℕ) (fits : Option R → R → Bool) (turn : ℕ) (weight_of : R → ℕ) (weight : ℕ) (rows : List R) where
  abbrev turning : List R → R → Option ℕ
  turning = turning_rule place order own fits turn weight_of weight

  pub turning_clear : (count : ℕ) → AreClear (own_rule place order own) rows count → AreClear (turn_rule place fits turn) rows count → AreClear (weight_rule weight_of weight) rows count → AreClear turning rows count
  turning_clear count owns turns light at row under there = rw (owns at row under there, turns at row under there) (light at row under there)

  -- a row that doesn't fit, among those before which none breaks another rule
  pub turning_unfit : (kept : ℕ) (flaw : Flaw) (first : IsFirst (turn_rule place fits turn) rows flaw) → first.place < kept → AreClear (own_rule place order own) rows kept
      → ((at : ℕ) → at < kept → AreClear (weight_rule weight_of weight) rows at) → first_flaw turning rows ≡ Some flaw
  turning_unfit kept flaw first under owns light =
      let (row, there, unfit) = first.breaks in
      flaw_is turning rows flaw (record {
        place = first.place;
        numbered = first.numbered;
        clear = turning_clear first.place (clear_fewer (own_rule place order own) rows first.place kept (omega arith) owns) first.clear (light first.place under);
        breaks = (row, there, rw (owns first.place row under there, unfit) refl);
      })

  turning_unfit_among : (kept : ℕ) (flaw : Flaw) → kept ≤ length rows → AreClear (own_rule place order own) rows kept → ((at : ℕ) → at < kept → AreClear (weight_rule weight_of weight) rows at)
      → IsFirst (turn_rule place fits turn) (take kept rows) flaw → first_flaw turning rows ≡ Some flaw
  turning_unfit_among kept flaw within owns light first =
      let (under, breaks) = first_taken (turn_rule place fits turn) rows kept flaw within first in
      turning_unfit kept flaw
      (record { place = first.place; numbered = first.numbered; clear = clear_taken (turn_rule place fits turn) rows first.place kept (omega arith) first.clear; breaks = breaks })
      under owns light

  -- in an index of all rows
  pub turning_whole : (flaw : Flaw) → AreClear (own_rule place order own) rows (length rows) → AreClear (weight_rule weight_of weight) rows (length rows) → IsFirst (turn_rule place fits turn) rows flaw
      → first_flaw turning rows ≡ Some flaw
  turning_whole flaw owns light first =
      let (row, there, unfit) = first.breaks in
      turning_unfit (length rows) flaw first (slice_get_within rows first.place row there) owns (λ at under. clear_fewer (weight_rule weight_of weight) rows at (length rows) (omega arith) light)

  -- where all these fit, a row that breaks a rule by itself
  pub turning_broken : (at rule : ℕ) → AreClear (own_rule place order own) rows at → AreClear (weight_rule weight_of weight) rows at → Breaks (own_rule place order own) rows at rule
      → AreClear (turn_rule place fits turn) rows at → first_flaw turning rows ≡ Some (record { row = at + 1; rule = rule })
  turning_broken at rule owns light (row, there, breaks) turns =
      flaw_is turning rows (record { row = at + 1; rule = rule })
      (record { place = at; numbered = refl; clear = turning_clear at owns turns light; breaks = (row, there, rw breaks refl) })

  -- and one that weighs too much
  pub turning_heavy : (at : ℕ) → AreClear (own_rule place order own) rows (at + 1) → AreClear (weight_rule weight_of weight) rows at → Breaks (weight_rule weight_of weight) rows at 13
      → AreClear (turn_rule place fits turn) rows (at + 1) → first_flaw turning rows ≡ Some (record { row = at + 1; rule = 13 })
  turning_heavy at owns light (row, there, breaks) turns =
      flaw_is turning rows (record { row = at + 1; rule = 13 })
      (record {
        place = at;
        numbered = refl;
        clear =
            turning_clear at (clear_fewer (own_rule place order own) rows at (at + 1) (omega arith) owns)
            (clear_fewer (turn_rule place fits turn) rows at (at + 1) (omega arith) turns) light;
        breaks = (row, there, rw (owns at row (omega arith) there, turns at row (omega arith) there) breaks);
      })

  -- what is told of first rows
  clear_among : (kept : ℕ) → kept ≤ length rows → AreClear (turn_rule place fits turn) (take kept rows) (length (take kept rows)) → AreClear (turn_rule place fits turn) rows kept
  clear_among kept within clear = clear_taken (turn_rule place fits turn) rows kept kept (omega arith) (rw (length-take-le kept rows within) at clear)

  pub turning_broken_or : (at rule : ℕ) (found : Option Flaw) → at < length rows → AreClear (own_rule place order own) rows at → AreClear (weight_rule weight_of weight) rows at
      → Breaks (own_rule place order own) rows at rule → IfNone found (AreClear (turn_rule place fits turn) (take at rows) (length (take at rows))) → IfSome found (IsFirst (turn_rule place fits turn) (take at rows))
      → first_flaw turning rows ≡ Some (unwrap_or found (record { row = at + 1; rule = rule }))
  turning_broken_or at rule None under owns light breaks none some = turning_broken at rule owns light breaks (clear_among at (omega arith) none)
  turning_broken_or at rule (Some flaw) under owns light breaks none some =
      turning_unfit_among at flaw (omega arith) owns (λ place' below. clear_fewer (weight_rule weight_of weight) rows place' at (omega arith) light) some

  pub turning_heavy_or : (at : ℕ) (found : Option Flaw) → at < length rows → AreClear (own_rule place order own) rows (at + 1) → AreClear (weight_rule weight_of weight) rows at
      → Breaks (weight_rule weight_of weight) rows at 13 → IfNone found (AreClear (turn_rule place fits turn) (take (at + 1) rows) (length (take (at + 1) rows)))
      → IfSome found (IsFirst (turn_rule place fits turn) (take (at + 1) rows)) → first_flaw turning rows ≡ Some (unwrap_or found (record { row = at + 1; rule = 13 }))
  turning_heavy_or at None under owns light breaks none some = turning_heavy at owns light breaks (clear_among (at + 1) (omega arith) none)
  turning_heavy_or at (Some flaw) under owns light breaks none some =
      turning_unfit_among (at + 1) flaw (omega arith) owns (λ place' below. clear_fewer (weight_rule weight_of weight) rows place' at (omega arith) light) some
