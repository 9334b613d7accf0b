-- The effectivity rows of a feed say at each date in which run a reference list is.
use Rattle.dv_records.proofs.Vocabulary.{Bool, Contains, EffectRow, Extract, Hashes, IsApart, IsEffectBatch, Key, List, None, Option, Some, ap, appended, arith, delivers, effect_batch, effect_row, eq-eqb, eqb-true, false, in_effect_since, inl, inr, lists_of, open_end, opened_by, option_and_then}
use Rattle.dv_records.proofs.Vocabulary.{refl, run_begin, subst, sym, true, up_to, ℕ, ◌<◌, ◌==◌, ◌∙◌, ◌∷◌, ◌≡◌}
use Rattle.dv_records.proofs.{EffectTies.begins_before, EffectTies.effect_parent, EffectTies.effect_stands, EffectTies.effect_tied, LastChange.AreApart, LastChange.Changes, LastChange.IsOwn, LastChange.IsStep, LastChange.Tells, LastChange.apart-older, LastChange.last_change}
use Rattle.dv_records.proofs.{Reversing.IsNewestFirst, StatusReconstruct.both_lists}

not_same : (a b : ℕ) → a < b → (a == b) ≡ false
not_same a b less = by (a == b) refl
  where
    by : (t : Bool) → (a == b) ≡ t → (a == b) ≡ false
    by false e = e
    by true e = let same : a ≡ b = eqb-true a b e in absurd (omega (arith, less, same))

module _ (hashes : Hashes) (source : List ℕ) (refs : List Key) (date : ℕ) where
  -- no other list has the hash key, and the extracts stand from the newest on
  abbrev Good : List Extract → Type 0
  Good all = AreApart hashes refs all × IsNewestFirst (λ (extract : Extract). extract.load) all

  older_good : (newest : Extract) (older : List Extract) → Good (newest ∷ older) → Good older
  older_good newest older good = (apart-older hashes refs newest older good.0, good.1.1)

  module _ (newest : Extract) (older : List Extract) (good : Good (newest ∷ older)) where
    is_batch : IsEffectBatch hashes source older newest (effect_batch hashes source older newest)
    is_batch = (effect_tied hashes source older newest (λ a b a_in b_in. good.0.0 a b (both_lists newest older a a_in) (both_lists newest older b b_in)) (effect_batch hashes source older newest)).0 refl

    -- a row of the batch with the list's hash key is the list's own
    own_row : (row : EffectRow) → Contains (effect_batch hashes source older newest) row → row.parent ≡ hashes.hash refs → effect_row hashes source older newest refs ≡ Some row
    own_row row has parent =
        let (other, gives) = is_batch.only row has in
        let hashed : hashes.hash other ≡ hashes.hash refs = sym (effect_parent hashes source older newest other row gives) ∙ parent in
        let same : other ≡ refs = good.0.1 other (both_lists newest older other (effect_stands hashes source older newest other row gives)) hashed in
        ap (effect_row hashes source older newest) (sym same) ∙ gives

    -- what the list's row says of the run that it is in, and its load date
    says : (row : EffectRow) → effect_row hashes source older newest refs ≡ Some row → (row.load ≡ newest.load) × (opened_by row ≡ run_begin (newest ∷ older) refs)
    says row gives = by (run_begin older refs) (delivers newest.rows refs) refl refl
      where
        by : (was : Option ℕ) (now : Bool) → run_begin older refs ≡ was → delivers newest.rows refs ≡ now → (row.load ≡ newest.load) × (opened_by row ≡ run_begin (newest ∷ older) refs)
        by None false w n = let no : None ≡ Some row = rw (w, n) at gives in cc
        by (Some begin) true w n = let no : None ≡ Some row = rw (w, n) at gives in cc
        by None true w n =
            let made : Some (record { parent = hashes.hash refs; load = newest.load; source = source; begin = newest.load; end = open_end }) ≡ Some row = rw (w, n) at gives in
            let is : record { parent = hashes.hash refs; load = newest.load; source = source; begin = newest.load; end = open_end } ≡ row = cc in
            subst (λ (r : EffectRow). (r.load ≡ newest.load) × (opened_by r ≡ run_begin (newest ∷ older) refs)) is (refl, rw (w, n, eq-eqb newest.load newest.load refl) refl)
        by (Some begin) false w n =
            let made : Some (record { parent = hashes.hash refs; load = newest.load; source = source; begin = begin; end = newest.load }) ≡ Some row = rw (w, n) at gives in
            let is : record { parent = hashes.hash refs; load = newest.load; source = source; begin = begin; end = newest.load } ≡ row = cc in
            let early : (begin == newest.load) ≡ false = not_same begin newest.load (begins_before refs newest.load older good.1.0 begin w) in
            subst (λ (r : EffectRow). (r.load ≡ newest.load) × (opened_by r ≡ run_begin (newest ∷ older) refs)) is (refl, rw (n, early) refl)

    -- without a row the list stays in the run that it was in, or in none
    stays : effect_row hashes source older newest refs ≡ None → run_begin (newest ∷ older) refs ≡ run_begin older refs
    stays none = by (run_begin older refs) (delivers newest.rows refs) refl refl
      where
        by : (was : Option ℕ) (now : Bool) → run_begin older refs ≡ was → delivers newest.rows refs ≡ now → run_begin (newest ∷ older) refs ≡ run_begin older refs
        by None false w n = rw (w, n) refl
        by (Some begin) true w n = rw (w, n) refl
        by None true w n = let no = rw (w, n) at none in cc
        by (Some begin) false w n = let no = rw (w, n) at none in cc

    step : IsStep (λ (row : EffectRow). row.parent) (λ (row : EffectRow). row.load) (effect_batch hashes source) (λ all. run_begin all refs) Good (hashes.hash refs) date newest older
    step = record { dated = λ row has parent. (says row (own_row row has parent)).0; changes = by (effect_row hashes source older newest refs) refl }
      where
        by : (o : Option EffectRow) → effect_row hashes source older newest refs ≡ o
            → Changes (λ (row : EffectRow). row.parent) (λ (row : EffectRow). row.load) (effect_batch hashes source) (λ all. run_begin all refs) Good (hashes.hash refs) date newest older
        by (Some row) e = inl (row, is_batch.each refs row e, effect_parent hashes source older newest refs row e)
        by None e = inr (λ row has parent. let no : None ≡ Some row = sym e ∙ own_row row has parent in cc, stays e)

  -- the rows of all extracts say in which run the list is at the date
  pub effects_say : (all : List Extract) → IsNewestFirst (λ (extract : Extract). extract.load) all → IsApart hashes (lists_of all) → IsOwn hashes refs all
      → in_effect_since (appended (effect_batch hashes source) all) (hashes.hash refs) date ≡ run_begin (up_to date all) refs
  effects_say all order apart own = by (last_change _ _ _ _ _ _ _ older_good step all order ((apart, own), order))
    where
      by : Tells (λ (row : EffectRow). row.parent) (λ (row : EffectRow). row.load) (effect_batch hashes source) (λ all. run_begin all refs) Good (hashes.hash refs) date all
          (appended (effect_batch hashes source) all)
          → in_effect_since (appended (effect_batch hashes source) all) (hashes.hash refs) date ≡ run_begin (up_to date all) refs
      by (inl none) = ap (option_and_then opened_by) none.0 ∙ sym none.1
      by (inr is) = ap (option_and_then opened_by) is.found ∙ (says is.newest is.older is.good is.last (own_row is.newest is.older is.good is.last is.last_in is.last_of)).1 ∙ sym is.told
