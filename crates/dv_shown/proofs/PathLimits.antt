-- A path's rows at their limit and past it.
use Rattle.dv_shown.proofs.Vocabulary.{Bool, Err, List, Ok, Option, PathDef, PathLimitsHold, PathQuery, Some, TooLarge, [], ap, bridge_text_by, cond, false, get_or-range_with_len, if_not_too_large, is_too_large, length, length-range_with_len, list_any}
use Rattle.dv_shown.proofs.Vocabulary.{list_any_at, nat_lt, path_text_by, range_with_len, refl, slice_get, subst, sym, true, ℕ, ◌+◌, ◌<◌, ◌∙◌, ◌∷◌, ◌≡◌, ◌≤◌}
use Rattle.dv_shown.proofs.Limits.{not_above}
use Rattle.dv_shown.specs.PathLimits.{row_count}

none_passes : {X : Type 0} (test : X → Bool) → ((x : X) → test x ≡ false) → (xs : List X) → list_any test xs ≡ false
none_passes test none [] = refl
none_passes test none (x ∷ xs) = rw (none x) (none_passes test none xs)

module _ (a : PathQuery) where
  abbrev large : Bool
  large = is_too_large a.mapping a.sealed a.date a.path

  kept : ((n : ℕ) → row_count a n ≤ 1000000) → large ≡ false
  kept few = none_passes (λ n. nat_lt 1000000 (row_count a n)) (λ n. not_above (row_count a n) 1000000 (few n)) (range_with_len 1 (length a.path.feeds))

  passed : (i : ℕ) → i < length a.path.feeds → row_count a (1 + i) ≡ 1000001 → large ≡ true
  passed i within count =
      list_any_at (λ n. nat_lt 1000000 (row_count a n)) (range_with_len 1 (length a.path.feeds)) i 0
      (subst (λ n. i < n) (sym (length-range_with_len 1 (length a.path.feeds))) within)
      (ap (λ n. nat_lt 1000000 (row_count a n)) (get_or-range_with_len 1 (length a.path.feeds) i 0 within) ∙ ap (nat_lt 1000000) count)

  by_test : (text : Option PathDef → List ℕ) (b : Bool) → large ≡ b
      → if_not_too_large a.mapping a.sealed a.date (slice_get a.mapping.paths a.place) (text (slice_get a.mapping.paths a.place))
      ≡ cond b (Err (TooLarge a.path.name)) (Ok (text (Some a.path)))
  by_test text b is =
      ap (λ o. if_not_too_large a.mapping a.sealed a.date o (text o)) a.path_is
      ∙ ap (λ (b : Bool). cond b (Err (TooLarge a.path.name)) (Ok (text (Some a.path)))) is

  abbrev mart : Option PathDef → List ℕ
  mart = path_text_by a.mapping a.sealed a.place a.date

  abbrev bridges : Option PathDef → List ℕ
  bridges = bridge_text_by a.mapping a.hashes a.sealed a.place a.date

pub path_limits : PathLimitsHold
path_limits = record {
  mart_kept = λ a few. by_test a (mart a) false (kept a few);
  bridge_kept = λ a few. by_test a (bridges a) false (kept a few);
  mart_passed = λ a i within count. by_test a (mart a) true (passed a i within count);
  bridge_passed = λ a i within count. by_test a (bridges a) true (passed a i within count);
}
