-- The multi-active satellite of extracts ascends, so what one more extract adds to it row by row is its batch.
use Rattle.dv_sat.proofs.Vocabulary.{AreNewestFirst, Contains, Contains-append_right, Contains-cons_there, Extract, Hashes, IsApart, IsStrictlySortedBy, IsTold, List, MultiRow, [], all_refs, appended, ascending-sorted_by, delta_follows, filter_map, lists_of, multi_batch, multi_change, multi_cmp}
use Rattle.dv_sat.proofs.Vocabulary.{multi_delta, multi_order, multi_total, none_later, subst, ℕ, ◌++◌, ◌∷◌, ◌≡◌}
use Rattle.dv_sat.proofs.{MultiDeltaBatch.delta_is_batch, MultiDeltaBatch.row_load, MultiFollowing.made_stamped}

module _ (hashes : Hashes) (source : List ℕ) where
  abbrev AreTold : List Extract → Type 0
  AreTold extracts = (extract : Extract) → Contains extracts extract → IsTold extract.rows

  abbrev rows_after : List Extract → List MultiRow
  rows_after extracts = appended (multi_batch hashes source) extracts

  apart_before : (newest : Extract) (older : List Extract) → IsApart hashes (lists_of (newest ∷ older)) → IsApart hashes (lists_of older)
  apart_before newest older apart a b a_in b_in =
      apart a b (Contains-append_right (all_refs newest.rows) (lists_of older) a a_in) (Contains-append_right (all_refs newest.rows) (lists_of older) b b_in)

  -- what an extract adds stands behind the rows of those before it
  grown : (newest : Extract) (older : List Extract) → AreNewestFirst (newest ∷ older) → IsStrictlySortedBy multi_order (rows_after older)
      → IsStrictlySortedBy multi_order (rows_after older ++ multi_delta hashes source (rows_after older) newest.load newest.rows)
  grown newest older order up =
      let change = multi_change hashes source (rows_after older) newest.load newest.rows in
      delta_follows (λ (row : MultiRow). row.load) multi_cmp newest.load (rows_after older) _
      (made_stamped hashes source (rows_after older) newest.load newest.rows newest.rows) (ascending-sorted_by multi_cmp multi_total (filter_map change newest.rows)) up
      (none_later (λ (row : MultiRow). row.load) (multi_batch hashes source) (row_load hashes source) older newest order)

  rows_ascend : (extracts : List Extract) → AreNewestFirst extracts → IsApart hashes (lists_of extracts) → AreTold extracts → IsStrictlySortedBy multi_order (rows_after extracts)
  unfolding IsStrictlySortedBy
  rows_ascend [] order apart told = tt
  rows_ascend (newest ∷ older) order apart told =
      let before = rows_ascend older order.1 (apart_before newest older apart) (λ extract has. told extract (Contains-cons_there newest older extract has)) in
      subst (λ (more : List MultiRow). IsStrictlySortedBy multi_order (rows_after older ++ more)) (delta_is_batch hashes source older newest order apart told before) (grown newest older order before)

  pub next_is_batch : (older : List Extract) (newest : Extract) → AreNewestFirst (newest ∷ older) → IsApart hashes (lists_of (newest ∷ older)) → AreTold (newest ∷ older)
      → multi_delta hashes source (rows_after older) newest.load newest.rows ≡ multi_batch hashes source older newest
  unfolding IsStrictlySortedBy
  next_is_batch older newest order apart told =
      delta_is_batch hashes source older newest order apart told
      (rows_ascend older order.1 (apart_before newest older apart) (λ extract has. told extract (Contains-cons_there newest older extract has)))
