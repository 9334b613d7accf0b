-- Rows of which each stands behind the one before it are in load order, and ascend.
use Rattle.dv_store_rules.proofs.Vocabulary.{AllByRecursion, AreClear, Bool, IsStrictlySortedBy, IsTotalOrder, Less, List, None, Option, Ordering, Place, Some, [], and_from, are_in_load_order, arith, is_behind, is_less, last_or, le-leb, le_from_cmp, length, length-take-le, list_all, nat_cmp}
use Rattle.dv_store_rules.proofs.Vocabulary.{nat_cmp_total, nat_le, on_total, option_map_or, ordering_then, own_rule, refl, slice_get, suc, take, take-take, take_all, then_total, true, ℕ, ◌<◌, ◌∷◌, ◌≡◌, ◌≤◌}
use Rattle.dv_store_rules.proofs.FirstFlaws.{got_taken}

module _ {R : Type 0} (place : R → Place) (order : R → R → Ordering) where
  -- by load date, and then in the order of a batch
  abbrev pub row_order : R → R → Ordering
  row_order a b = ordering_then (nat_cmp (place a).load (place b).load) (order a b)

  -- a row stands behind the last one, if there is one
  abbrev follows_last : Option R → R → Bool
  follows_last last row = option_map_or (λ other. is_behind (λ row. (place row).load) order other row) last true

  -- each row stands behind the one before it
  abbrev AreChained : Option R → List R → Type 0
  AreChained last [] = Unit
  AreChained last (row ∷ rows) = (follows_last last row ≡ true) × AreChained (Some row) rows

  chained : (last : Option R) (rows : List R) → ((at : ℕ) (row : R) → at < length rows → slice_get rows at ≡ Some row → follows_last (last_or last (take at rows)) row ≡ true) → AreChained last rows
  chained last [] each = tt
  chained last (row ∷ rows) each = (each 0 row (omega arith) refl, chained (Some row) rows (λ at other under there. each (suc at) other (omega arith) there))

  -- no row is earlier than one before all of them
  not_earlier : (date : ℕ) (last : R) (rows : List R) → date ≤ (place last).load → AreChained (Some last) rows → list_all (λ other. nat_le date (place other).load) rows ≡ true
  not_earlier date last [] le chain = refl
  not_earlier date last (row ∷ rows) le (first, rest) =
      let later : (place last).load ≤ (place row).load = le_from_cmp (place last).load (place row).load (order last row) (is_less _ first) in
      and_from _ _ (le-leb date (place row).load (omega arith)) (not_earlier date row rows (omega arith) rest)

  chain_in_order : (last : Option R) (rows : List R) → AreChained last rows → are_in_load_order place rows ≡ true
  chain_in_order last [] chain = refl
  chain_in_order last (row ∷ rows) (first, rest) = and_from _ _ (not_earlier (place row).load row rows (omega arith) rest) (chain_in_order (Some row) rows rest)

  module _ (total : IsTotalOrder order) where
    whole_total : IsTotalOrder row_order
    whole_total = then_total (on_total (λ row. (place row).load) nat_cmp_total) total

    all_behind : (first last : R) (rows : List R) → row_order first last ≡ Less → AreChained (Some last) rows → AllByRecursion (λ row. row_order first row ≡ Less) rows
    all_behind first last [] less chain = tt
    all_behind first last (row ∷ rows) less (here, rest) =
        let next = whole_total.trans first last row less (is_less _ here) in
        (next, all_behind first row rows next rest)

    next_behind : (last : R) (rows : List R) → AreChained (Some last) rows → AllByRecursion (λ row. row_order last row ≡ Less) rows
    next_behind last [] chain = tt
    next_behind last (row ∷ rows) (here, rest) = (is_less _ here, all_behind last row rows (is_less _ here) rest)

    chain_ascends : (last : Option R) (rows : List R) → AreChained last rows → IsStrictlySortedBy row_order rows
    unfolding IsStrictlySortedBy
    chain_ascends last [] chain = tt
    chain_ascends last (row ∷ rows) (first, rest) = (next_behind row rows rest, chain_ascends (Some row) rows rest)

  -- ---- rows of which none breaks a rule by itself

  module _ (own : R → Bool → Option ℕ) (stands : (row : R) (behind : Bool) → own row behind ≡ None → behind ≡ true) (rows : List R) where
    module _ (count : ℕ) (within : count ≤ length rows) (clear : AreClear (own_rule place order own) rows count) where
      first_chained : AreChained None (take count rows)
      first_chained = chained None (take count rows) (λ at row under there.
          let below : at < count = omega (arith, under, length-take-le count rows within) in
          let here = got_taken rows count at row below there in
          rw (take-take at count rows (omega arith)) (stands row _ (clear at row below here)))

      pub first_in_order : are_in_load_order place (take count rows) ≡ true
      first_in_order = chain_in_order None (take count rows) first_chained

    module _ (clear : AreClear (own_rule place order own) rows (length rows)) where
      pub all_in_order : are_in_load_order place rows ≡ true
      all_in_order = rw (take_all (length rows) rows (omega arith)) at (first_in_order (length rows) (omega arith) clear)

      pub all_ascend : IsTotalOrder order → IsStrictlySortedBy row_order rows
      all_ascend total = rw (take_all (length rows) rows (omega arith)) at (chain_ascends total None (take (length rows) rows) (first_chained (length rows) (omega arith) clear))
