-- Over the satellite of older extracts, what the newest one adds row by row is its batch.
use Rattle.dv_sat.proofs.Vocabulary.{AreNewestFirst, Bool, Contains, Contains-append_left, Contains-append_right, Contains-cons_here, Contains-cons_there, Contains-map, Contains-nil, Extract, Hashes, IsApart, IsPlain, IsStrictlySortedBy, IsStrictlySortedBy-filter, Key, Less, List, NRow, None}
use Rattle.dv_sat.proofs.Vocabulary.{Option, SatRow, Some, [], all_refs, all_up_to, ap, appended, arith, batch_stamped, delivers, false, filter_map, filtered_members, first_attrs, has_attrs, has_load, inl, inr, irreflexive, is_changed, last_rows, lists_of, newest_first, none_loaded, not}
use Rattle.dv_sat.proofs.Vocabulary.{option_map, pointwise, refl, refs_eq, refs_eq-Decides, row_cmp, row_eq, row_total, rows_of, sat_batch, sat_change, sat_cmp, sat_delta, sat_place, sat_row, some_passes, sorted_by, subst, sym, texts_eq, texts_eq-Decides, true, valid_at, ℕ, ◌&&◌, ◌∙◌, ◌∷◌, ◌≡◌, ◌⊎◌}
use Rattle.dv_records.proofs.SatReconstruct.{tells}
use Rattle.dv_sat.proofs.SatFollowing.{if_so}

module _ (hashes : Hashes) (source : List ℕ) where
  -- a row of a batch has its extract's load date
  row_load : (older : List Extract) (newest : Extract) (row : SatRow) → Contains (sat_batch hashes source older newest) row → row.load ≡ newest.load
  row_load older newest =
      batch_stamped (λ (row : SatRow). row.load) sat_cmp (sat_row hashes source older newest) newest.load
      (λ thing row e. sym (ap (λ (r : SatRow). r.load) (if_so (is_changed older newest thing.refs) _ row e))) newest.rows

-- ---- the one row of a list

one_of : (x : NRow) (xs : List NRow) → IsStrictlySortedBy row_cmp xs → ((y : NRow) → Contains xs y → y ≡ x) → Contains xs x → xs ≡ x ∷ []
unfolding IsStrictlySortedBy
one_of x [] up all has = Contains-nil x has
one_of x (y ∷ []) up all has = ap (λ z. z ∷ []) (all y (Contains-cons_here y []))
one_of x (y ∷ z ∷ xs) up all has =
    let same : y ≡ z = all y (Contains-cons_here y (z ∷ xs)) ∙ sym (all z (Contains-cons_there y (z ∷ xs) z (Contains-cons_here z xs))) in
    let less : row_cmp y y ≡ Less = subst (λ w. row_cmp y w ≡ Less) (sym same) up.0.0 in
    absurd (irreflexive row_total y less)

only_row : (rows : List NRow) → IsPlain rows → (row : NRow) → Contains rows row → rows_of rows row.refs ≡ row ∷ []
only_row rows plain row has =
    one_of row (rows_of rows row.refs) (IsStrictlySortedBy-filter row_cmp (λ (other : NRow). refs_eq other.refs row.refs) rows plain.ascending)
    (λ other within.
    let (member, same) = (filtered_members (λ (other : NRow). refs_eq other.refs row.refs) rows other).0 within in
    plain.single other row member has ((refs_eq-Decides other.refs row.refs).0 same))
    ((filtered_members (λ (other : NRow). refs_eq other.refs row.refs) rows row).1 (has, (refs_eq-Decides row.refs row.refs).1 refl))

-- what was last there of a list: nothing, or one row without a sub
record IsLast (refs : List Key) (rows : List NRow) : Type 0 where
  row : NRow
  one : rows ≡ row ∷ []
  refs_same : row.refs ≡ refs
  no_sub : row.sub ≡ []

last_one : (extracts : List Extract) → ((extract : Extract) → Contains extracts extract → IsPlain extract.rows) → (refs : List Key) → (last_rows extracts refs ≡ []) ⊎ IsLast refs (last_rows extracts refs)
last_one [] plain refs = inl refl
last_one (newest ∷ older) plain refs = by (delivers newest.rows refs) refl (last_one older (λ extract has. plain extract (Contains-cons_there newest older extract has)) refs)
  where
    by : (here : Bool) → delivers newest.rows refs ≡ here → (last_rows older refs ≡ []) ⊎ IsLast refs (last_rows older refs) → (last_rows (newest ∷ older) refs ≡ []) ⊎ IsLast refs (last_rows (newest ∷ older) refs)
    by false e (inl none) = inl (rw e none)
    by false e (inr last) = inr (record { row = last.row; one = rw e last.one; refs_same = last.refs_same; no_sub = last.no_sub })
    by true e rest =
        let (row, member, same) = some_passes (λ (row : NRow). refs_eq row.refs refs) newest.rows e in
        let is : row.refs ≡ refs = (refs_eq-Decides row.refs refs).0 same in
        let rows_plain : IsPlain newest.rows = plain newest (Contains-cons_here newest older) in
        let all : rows_of newest.rows refs ≡ row ∷ [] = subst (λ r. rows_of newest.rows r ≡ row ∷ []) is (only_row newest.rows rows_plain row member) in
        inr (record { row = row; one = rw e all; refs_same = is; no_sub = rows_plain.no_sub row member })

-- one row is another where the attributes are
one_changed : (old row : NRow) → old.refs ≡ row.refs → old.sub ≡ row.sub → pointwise row_eq (old ∷ []) (row ∷ []) ≡ texts_eq old.attrs row.attrs
one_changed old row refs sub = rw ((refs_eq-Decides old.refs row.refs).1 refs, (texts_eq-Decides old.sub row.sub).1 sub) (by (texts_eq old.attrs row.attrs))
  where
    by : (b : Bool) → (b && true) ≡ b
    by true = refl
    by false = refl

-- ---- the newest extract

module _ (hashes : Hashes) (source : List ℕ) (older : List Extract) (newest : Extract) (order : AreNewestFirst (newest ∷ older)) (apart : IsApart hashes (lists_of (newest ∷ older))) (plain : (extract : Extract) → Contains (newest ∷ older) extract → IsPlain extract.rows) where
  abbrev rows : List SatRow
  rows = appended (sat_batch hashes source) older

  older_plain : (extract : Extract) → Contains older extract → IsPlain extract.rows
  older_plain extract has = plain extract (Contains-cons_there newest older extract has)

  -- no row of the table has the new load date
  no_load : has_load sat_place rows newest.load ≡ false
  no_load = none_loaded (λ (row : SatRow). row.load) (sat_batch hashes source) (row_load hashes source) older newest order

  in_newest : (row : NRow) → Contains newest.rows row → Contains (lists_of (newest ∷ older)) row.refs
  in_newest row has = Contains-append_left (all_refs newest.rows) (lists_of older) row.refs (Contains-map (λ (row : NRow). row.refs) newest.rows row has)

  -- at the new load date the table has the attributes that the list had when it was last there
  was : (row : NRow) → Contains newest.rows row → option_map (λ (row : SatRow). row.attrs) (valid_at rows (hashes.hash row.refs) newest.load) ≡ first_attrs (last_rows older row.refs)
  was row has =
      let first = newest_first (newest ∷ older) order in
      tells hashes source row.refs newest.load older first.1
      (λ extract member. (older_plain extract member).single)
      (λ a b a_in b_in. apart a b (Contains-append_right (all_refs newest.rows) (lists_of older) a a_in) (Contains-append_right (all_refs newest.rows) (lists_of older) b b_in))
      (λ other member same. apart other row.refs (Contains-append_right (all_refs newest.rows) (lists_of older) other member) (in_newest row has) same)
      ∙ ap (λ extracts. first_attrs (last_rows extracts row.refs)) (all_up_to newest.load newest.load older first.0 (omega arith))

  -- the test of an option's row by that of its attributes
  tested : (valid : Option SatRow) (attrs : List (List ℕ)) → option_map (λ (row : SatRow). row.attrs) valid ≡ None → has_attrs valid attrs ≡ false
  tested None attrs e = refl
  tested (Some row) attrs e = let no : Some row.attrs ≡ None = e in cc

  tested_some : (valid : Option SatRow) (old attrs : List (List ℕ)) → option_map (λ (row : SatRow). row.attrs) valid ≡ Some old → has_attrs valid attrs ≡ texts_eq old attrs
  tested_some None old attrs e = let no : None ≡ Some old = e in cc
  tested_some (Some row) old attrs e =
      let is : Some row.attrs ≡ Some old = e in
      let same : row.attrs ≡ old = cc in
      ap (λ a. texts_eq a attrs) same

  -- so a row is changed just where it has other attributes
  same_test : (row : NRow) → Contains newest.rows row → is_changed older newest row.refs ≡ not (has_attrs (valid_at rows (hashes.hash row.refs) newest.load) row.attrs)
  same_test row has = by (last_one older older_plain row.refs)
    where
      rows_plain : IsPlain newest.rows
      rows_plain = plain newest (Contains-cons_here newest older)

      by : (last_rows older row.refs ≡ []) ⊎ IsLast row.refs (last_rows older row.refs) → is_changed older newest row.refs ≡ not (has_attrs (valid_at rows (hashes.hash row.refs) newest.load) row.attrs)
      by (inl none) =
          rw (none, only_row newest.rows rows_plain row has, tested (valid_at rows (hashes.hash row.refs) newest.load) row.attrs (was row has ∙ ap first_attrs none)) refl
      by (inr last) =
          let subs : last.row.sub ≡ row.sub = last.no_sub ∙ sym (rows_plain.no_sub row has) in
          ap not (
          ap (λ some. pointwise row_eq some (rows_of newest.rows row.refs)) last.one
          ∙ ap (pointwise row_eq (last.row ∷ [])) (only_row newest.rows rows_plain row has)
          ∙ one_changed last.row row last.refs_same subs
          ∙ sym (tested_some (valid_at rows (hashes.hash row.refs) newest.load) last.row.attrs row.attrs (was row has ∙ ap first_attrs last.one)))

  same_row : (row : NRow) → Contains newest.rows row → sat_change hashes source rows newest.load row ≡ sat_row hashes source older newest row
  same_row row has = by (has_attrs (valid_at rows (hashes.hash row.refs) newest.load) row.attrs) refl
    where
      by : (b : Bool) → has_attrs (valid_at rows (hashes.hash row.refs) newest.load) row.attrs ≡ b → sat_change hashes source rows newest.load row ≡ sat_row hashes source older newest row
      by true e = rw (same_test row has, e) refl
      by false e = rw (same_test row has, e) refl

  pub delta_is_batch : sat_delta hashes source rows newest.load newest.rows ≡ sat_batch hashes source older newest
  delta_is_batch = rw no_load (ap (sorted_by sat_cmp) (alike newest.rows (λ row has. same_row row has)))
    where
      alike : (some : List NRow) → ((row : NRow) → Contains some row → sat_change hashes source rows newest.load row ≡ sat_row hashes source older newest row) → filter_map (sat_change hashes source rows newest.load) some ≡ filter_map (sat_row hashes source older newest) some
      alike [] same = refl
      alike (row ∷ some) same = rw (same row (Contains-cons_here row some), alike some (λ other has. same other (Contains-cons_there row some other has))) refl
