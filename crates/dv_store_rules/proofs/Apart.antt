-- Rows of which each has no row of its parent before it: their parents stand once.
use Rattle.dv_store_rules.proofs.Vocabulary.{AreClear, Bool, List, Place, Some, [], and_from, ap, are_in_load_order, are_parents_apart, are_placed_rows, bytes_eq, bytes_eq-Decides, false, false_from_ne_true, false≢true, has_row_under, is_none, last_of, length, list_any, none_pass, not-true}
use Rattle.dv_store_rules.proofs.Vocabulary.{not_from_false, or_parts, refl, slice_get, slice_get-get_or, slice_get_within, suc, sym, take, true, turn_rule, ℕ, ◌∙◌, ◌∷◌, ◌≡◌}
use Rattle.dv_store_rules.proofs.RuleParts.{held, none_found}

flipped : (a b : List ℕ) → bytes_eq a b ≡ false → bytes_eq b a ≡ false
flipped a b differ = false_from_ne_true (bytes_eq b a) (λ same. false≢true (sym differ ∙ (bytes_eq-Decides a b).1 (sym ((bytes_eq-Decides b a).0 same))))

module _ {R : Type 0} (place : R → Place) where
  apart : (rows : List R) → ((at : ℕ) (row : R) → slice_get rows at ≡ Some row → list_any (λ other. bytes_eq (place other).parent (place row).parent) (take at rows) ≡ false) → are_parents_apart place rows ≡ true
  apart [] each = refl
  apart (first ∷ rows) each =
      and_from _ _
      (not_from_false (has_row_under place (place first).parent rows)
      (none_pass (λ row. bytes_eq (place row).parent (place first).parent) rows (λ row (at, under, here).
      let there : slice_get rows at ≡ Some row = slice_get-get_or rows at row under ∙ ap Some here in
      flipped (place first).parent (place row).parent (or_parts _ _ (each (suc at) row there)).0)))
      (apart rows (λ at row there. (or_parts _ _ (each (suc at) row there)).1))

  -- where each row fits as the first of its parent
  pub once_apart : (rule : ℕ) (rows : List R) → AreClear (turn_rule place (λ last row. is_none last) rule) rows (length rows) → are_parents_apart place rows ≡ true
  once_apart rule rows clear = apart rows (λ at row there.
      let own : R → Bool = λ other. bytes_eq (place other).parent (place row).parent in
      let alone = held rule (is_none (last_of place (take at rows) (place row).parent)) (clear at row (slice_get_within rows at row there) there) in
      not-true (list_any own (take at rows)) (sym (none_found own (take at rows)) ∙ alone))

  pub once_placed : (rule : ℕ) (rows : List R) → AreClear (turn_rule place (λ last row. is_none last) rule) rows (length rows) → are_in_load_order place rows ≡ true → are_placed_rows place rows ≡ true
  once_placed rule rows clear order = and_from _ _ (once_apart rule rows clear) order
