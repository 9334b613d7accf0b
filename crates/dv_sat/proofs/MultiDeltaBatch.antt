-- Over the multi-active satellite of older extracts, what the newest one adds row by row is its batch.
use Rattle.dv_sat.proofs.Vocabulary.{AllByRecursion, AreNewestFirst, Bool, Contains, Contains-append_left, Contains-append_right, Contains-cons_here, Contains-cons_there, Contains-map, Extract, Hashes, IsApart, IsNewestFirst, IsStrictlySortedBy, IsStrictlySortedBy-filter, IsTold, Key, Less, List}
use Rattle.dv_sat.proofs.Vocabulary.{MultiRow, NRow, None, Option, Some, [], all_refs, all_up_to, all_valid_at, and_parts, ap, appended, arith, batch_stamped, bytes_eq, bytes_eq-Decides, delivers, described_row, eqb-true, false, filter, filter_map, filtered_members, has_load, is_changed}
use Rattle.dv_sat.proofs.Vocabulary.{last_rows, lists_of, loaded_with, map, multi_batch, multi_change, multi_cmp, multi_delta, multi_order, multi_place, multi_row, nat_cmp_total, nat_list_cmp_total, newest_first, none_loaded, pointwise, refl, refs_eq, refs_total, row_cmp, row_eq, row_total}
use Rattle.dv_sat.proofs.Vocabulary.{rows_of, same_ascending, slice_cmp, sorted_by, subst, sym, tells, text_cmp, tied_itself, true, ℕ, ◌&&◌, ◌==◌, ◌↔◌, ◌∷◌, ◌≡◌}
use Rattle.dv_sat.proofs.SatFollowing.{if_so}

module _ (hashes : Hashes) (source : List ℕ) where
  -- a row of a batch has its extract's load date
  pub row_load : (older : List Extract) (newest : Extract) (row : MultiRow) → Contains (multi_batch hashes source older newest) row → row.load ≡ newest.load
  row_load older newest =
      batch_stamped (λ (row : MultiRow). row.load) multi_cmp (multi_row hashes source older newest) newest.load
      (λ thing row e. sym (ap (λ (r : MultiRow). r.load) (if_so (is_changed older newest thing.refs) _ row e))) newest.rows

-- what was last there of a list ascends
last_ascends : (extracts : List Extract) → ((extract : Extract) → Contains extracts extract → IsTold extract.rows) → (refs : List Key) → IsStrictlySortedBy row_cmp (last_rows extracts refs)
unfolding IsStrictlySortedBy
last_ascends [] told refs = tt
last_ascends (newest ∷ older) told refs = by (delivers newest.rows refs) refl (last_ascends older (λ extract has. told extract (Contains-cons_there newest older extract has)) refs)
  where
    by : (here : Bool) → delivers newest.rows refs ≡ here → IsStrictlySortedBy row_cmp (last_rows older refs) → IsStrictlySortedBy row_cmp (last_rows (newest ∷ older) refs)
    by true e rest = rw e (IsStrictlySortedBy-filter row_cmp (λ (row : NRow). refs_eq row.refs refs) newest.rows (told newest (Contains-cons_here newest older)).ascending)
    by false e rest = rw e rest

-- rows of one parent and load date ascend by sub, and so do the rows that they describe
module _ (refs : List Key) (parent : List ℕ) (load : ℕ) where
  abbrev IsOf : MultiRow → Type 0
  IsOf row = (row.parent ≡ parent) × (row.load ≡ load)

  less_described : (a b : MultiRow) → IsOf a → IsOf b → multi_order a b ≡ Less → row_cmp (described_row refs a) (described_row refs b) ≡ Less
  less_described a b a_of b_of less =
      let less_sub : slice_cmp text_cmp a.sub b.sub ≡ Less = rw (a_of.1, b_of.1, a_of.0, b_of.0, tied_itself nat_cmp_total load, tied_itself nat_list_cmp_total parent) at less in
      rw (tied_itself refs_total refs, less_sub) refl

  each_less : (a : MultiRow) (rows : List MultiRow) → IsOf a → ((row : MultiRow) → Contains rows row → IsOf row) → AllByRecursion (λ b. multi_order a b ≡ Less) rows → AllByRecursion (λ b. row_cmp (described_row refs a) b ≡ Less) (map (described_row refs) rows)
  each_less a [] a_of all less = tt
  each_less a (b ∷ rows) a_of all less = (less_described a b a_of (all b (Contains-cons_here b rows)) less.0, each_less a rows a_of (λ row has. all row (Contains-cons_there b rows row has)) less.1)

  described_ascend : (rows : List MultiRow) → ((row : MultiRow) → Contains rows row → IsOf row) → IsStrictlySortedBy multi_order rows → IsStrictlySortedBy row_cmp (map (described_row refs) rows)
  unfolding IsStrictlySortedBy
  described_ascend [] all up = tt
  described_ascend (a ∷ rows) all up = (each_less a rows (all a (Contains-cons_here a rows)) (λ row has. all row (Contains-cons_there a rows row has)) up.0, described_ascend rows (λ row has. all row (Contains-cons_there a rows row has)) up.1)

valid_ascend : (refs : List Key) (parent : List ℕ) (rows : List MultiRow) → IsStrictlySortedBy multi_order rows → (last : Option MultiRow) → IsStrictlySortedBy row_cmp (map (described_row refs) (loaded_with rows parent last))
unfolding IsStrictlySortedBy
valid_ascend refs parent rows up None = tt
valid_ascend refs parent rows up (Some last) =
    let passes = λ (row : MultiRow). bytes_eq row.parent parent && row.load == last.load in
    described_ascend refs parent last.load (filter passes rows)
    (λ row has.
    let (same_parent, same_load) = and_parts (bytes_eq row.parent parent) (row.load == last.load) ((filtered_members passes rows row).0 has).1 in
    ((bytes_eq-Decides row.parent parent).0 same_parent, eqb-true row.load last.load same_load))
    (IsStrictlySortedBy-filter multi_order passes rows up)

-- ---- the newest extract

module _ (hashes : Hashes) (source : List ℕ) (older : List Extract) (newest : Extract) (order : AreNewestFirst (newest ∷ older)) (apart : IsApart hashes (lists_of (newest ∷ older))) (told : (extract : Extract) → Contains (newest ∷ older) extract → IsTold extract.rows)
    (ascend : IsStrictlySortedBy multi_order (appended (multi_batch hashes source) older)) where
  abbrev rows : List MultiRow
  rows = appended (multi_batch hashes source) older

  older_told : (extract : Extract) → Contains older extract → IsTold extract.rows
  older_told extract has = told extract (Contains-cons_there newest older extract has)

  -- no row of the table has the new load date
  no_load : has_load multi_place rows newest.load ≡ false
  no_load = none_loaded (λ (row : MultiRow). row.load) (multi_batch hashes source) (row_load hashes source) older newest order

  -- at the new load date the table describes the rows that the list had when it was last there
  was : (row : NRow) → Contains newest.rows row → map (described_row row.refs) (all_valid_at rows (hashes.hash row.refs) newest.load) ≡ last_rows older row.refs
  was row has =
      same_ascending row_cmp row_total _ _ (valid_ascend row.refs (hashes.hash row.refs) rows ascend _) (last_ascends older older_told row.refs)
      (λ said. (told_then said).0) (λ said. (told_then said).1)
    where
      first : IsNewestFirst (λ (extract : Extract). extract.load) (newest ∷ older)
      first = newest_first (newest ∷ older) order

      told_then : (said : NRow) → Contains (map (described_row row.refs) (all_valid_at rows (hashes.hash row.refs) newest.load)) said ↔ Contains (last_rows older row.refs) said
      told_then said =
          subst (λ extracts. Contains (map (described_row row.refs) (all_valid_at rows (hashes.hash row.refs) newest.load)) said ↔ Contains (last_rows extracts row.refs) said)
          (all_up_to newest.load newest.load older first.0 (omega arith))
          (tells hashes source row.refs newest.load older first.1 (λ extract member. (older_told extract member).single)
          (λ a b a_in b_in. apart a b (Contains-append_right (all_refs newest.rows) (lists_of older) a a_in) (Contains-append_right (all_refs newest.rows) (lists_of older) b b_in))
          (λ other member same. apart other row.refs (Contains-append_right (all_refs newest.rows) (lists_of older) other member)
          (Contains-append_left (all_refs newest.rows) (lists_of older) row.refs (Contains-map (λ (row : NRow). row.refs) newest.rows row has)) same) said)

  same_row : (row : NRow) → Contains newest.rows row → multi_change hashes source rows newest.load newest.rows row ≡ multi_row hashes source older newest row
  same_row row has = by (pointwise row_eq (last_rows older row.refs) (rows_of newest.rows row.refs)) refl
    where
      by : (b : Bool) → pointwise row_eq (last_rows older row.refs) (rows_of newest.rows row.refs) ≡ b → multi_change hashes source rows newest.load newest.rows row ≡ multi_row hashes source older newest row
      by true e = rw (was row has, e) refl
      by false e = rw (was row has, e) refl

  pub delta_is_batch : multi_delta hashes source rows newest.load newest.rows ≡ multi_batch hashes source older newest
  delta_is_batch = rw no_load (ap (sorted_by multi_cmp) (alike newest.rows (λ row has. same_row row has)))
    where
      alike : (some : List NRow) → ((row : NRow) → Contains some row → multi_change hashes source rows newest.load newest.rows row ≡ multi_row hashes source older newest row)
          → filter_map (multi_change hashes source rows newest.load newest.rows) some ≡ filter_map (multi_row hashes source older newest) some
      alike [] same = refl
      alike (row ∷ some) same = rw (same row (Contains-cons_here row some), alike some (λ other has. same other (Contains-cons_there row some other has))) refl
