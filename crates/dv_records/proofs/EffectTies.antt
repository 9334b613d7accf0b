-- Effectivity batches are the lists that meet their records.
use Rattle.dv_records.proofs.Vocabulary.{Bool, Contains, Contains-cons_here, Contains-cons_there, EffectRow, Extract, Hashes, IsApart, IsEffectBatch, Key, List, None, Option, Some, [], all_refs, delivers, effect_batch, effect_row, false, newest_rows, refl, rules, run_begin, span_between, subst}
use Rattle.dv_records.proofs.Vocabulary.{true, ℕ, ◌++◌, ◌<◌, ◌↔◌, ◌∷◌, ◌≡◌}
use Rattle.dv_records.proofs.{BatchTies.given, BatchTies.tied_by_digest, BatchTies.tied_whole, Reversing.AllBefore, StatusTies.is_there, StatusTies.was_there}

-- a run began with one of the extracts
pub begins_before : (refs : List Key) (limit : ℕ) (all : List Extract) → AllBefore (λ (x : Extract). x.load) limit all → (b : ℕ) → run_begin all refs ≡ Some b → b < limit
begins_before refs limit [] early b e = cc
begins_before refs limit (newest ∷ older) early b e =
    by (delivers newest.rows refs) (run_begin older refs) refl refl (begins_before refs limit older (λ x has. early x (Contains-cons_there newest older x has)))
  where
    by : (now : Bool) (was : Option ℕ) → delivers newest.rows refs ≡ now → run_begin older refs ≡ was → ((c : ℕ) → run_begin older refs ≡ Some c → c < limit) → b < limit
    by false was f g later = let no : None ≡ Some b = rw f at e in cc
    by true None f g later = let is : Some newest.load ≡ Some b = rw (f, g) at e in let same : newest.load ≡ b = cc in subst (λ n. n < limit) same (early newest (Contains-cons_here newest older))
    by true (Some c) f g later = let is : Some c ≡ Some b = rw (f, g) at e in let same : c ≡ b = cc in subst (λ n. n < limit) same (later c g)

-- a run that goes on holds the list
pub in_run : (older : List Extract) (refs : List Key) (begin : ℕ) → run_begin older refs ≡ Some begin → delivers (newest_rows older) refs ≡ true
in_run older refs begin h1 = search (rules)

module _ (hashes : Hashes) (source : List ℕ) (older : List Extract) (newest : Extract) where
  pub effect_parent : (refs : List Key) (row : EffectRow) → effect_row hashes source older newest refs ≡ Some row → row.parent ≡ hashes.hash refs
  effect_parent refs row = given _ (λ (row : EffectRow). row.parent) (hashes.hash refs) (λ span. refl) (span_between newest.load (run_begin older refs) (delivers newest.rows refs)) row

  pub effect_stands : (refs : List Key) (row : EffectRow) → effect_row hashes source older newest refs ≡ Some row → Contains (all_refs (newest_rows older) ++ all_refs newest.rows) refs
  effect_stands refs row is = by (run_begin older refs) (delivers newest.rows refs) refl refl
    where
      by : (was : Option ℕ) (now : Bool) → run_begin older refs ≡ was → delivers newest.rows refs ≡ now → Contains (all_refs (newest_rows older) ++ all_refs newest.rows) refs
      by (Some begin) now w n = was_there hashes source older newest refs (in_run older refs begin w)
      by None true w n = is_there hashes source older newest refs n
      by None false w n = let no = rw (w, n) at is in cc

  pub effect_tied : IsApart hashes (all_refs (newest_rows older) ++ all_refs newest.rows) → (rows : List EffectRow) → (rows ≡ effect_batch hashes source older newest) ↔ IsEffectBatch hashes source older newest rows
  effect_tied apart rows =
      tied_whole effect_stands rows
      (tied_by_digest (λ (row : EffectRow). row.parent) hashes.hash (effect_row hashes source older newest) (all_refs (newest_rows older) ++ all_refs newest.rows) effect_parent apart rows)
