-- The rows of a satellite say at each date which rows a list had when it was last there, for any kind of row that is made
-- of an extract's row.
use Rattle.dv_records.proofs.Vocabulary.{Bool, Contains, Contains-append_left, Contains-cons_here, Contains-cons_there, Contains-map, Contains-nil, Extract, Hashes, IsApart, IsBatchOf, IsOnePerList, Key, List, NRow, None, Ordering, Some, [], all_refs, ap, appended, bytes_eq, delivers, false}
use Rattle.dv_records.proofs.Vocabulary.{false≢true, filtered_members, find, first_attrs, if◌then◌else◌, inl, inr, is_changed, last_rows, lists_of, nat_le, not, not-false, pointwise, refl, refs_eq, refs_eq-Decides, reverse, row_eq, row_eq-Decides, rows_of, slice_eq-Decides, some_passes}
use Rattle.dv_records.proofs.Vocabulary.{some_passes_at, subst, sym, true, up_to, ℕ, ◌&&◌, ◌∙◌, ◌∷◌, ◌≡◌, ◌⊎◌}
use Rattle.dv_records.proofs.{LastChange.AreApart, LastChange.Changes, LastChange.IsStep, LastChange.Tells, LastChange.apart-older, LastChange.last_change, Reversing.IsNewestFirst}

-- rows of a list are rows, and of the list
pub of_list : (rows : List NRow) (refs : List Key) (row : NRow) → Contains (rows_of rows refs) row → Contains rows row × (row.refs ≡ refs)
of_list rows refs row has =
    let (member, same) = (filtered_members (λ (row : NRow). refs_eq row.refs refs) rows row).0 has in
    (member, (refs_eq-Decides row.refs refs).0 same)

-- where each list has one row, the attributes of its rows are those of any of them
pub only_attrs : (rows : List NRow) → IsOnePerList rows → (refs : List Key) (row : NRow) → Contains (rows_of rows refs) row → first_attrs (rows_of rows refs) ≡ Some row.attrs
only_attrs rows single refs row has = by (rows_of rows refs) refl has
  where
    by : (all : List NRow) → rows_of rows refs ≡ all → Contains all row → first_attrs (rows_of rows refs) ≡ Some row.attrs
    by [] e within = Contains-nil row within
    by (first ∷ rest) e within =
        let (member, is) = of_list rows refs first (subst (λ (all : List NRow). Contains all first) (sym e) (Contains-cons_here first rest)) in
        let (row_in, row_is) = of_list rows refs row has in
        let one : first ≡ row = single first row member row_in (is ∙ sym row_is) in
        ap first_attrs e ∙ ap (λ (r : NRow). Some r.attrs) one

pub changed_false : (a b : List NRow) → not (pointwise row_eq a b) ≡ false → a ≡ b
changed_false a b e = (slice_eq-Decides row_eq-Decides a b (pointwise row_eq a b) refl).0 (not-false (pointwise row_eq a b) e)

-- ---- extracts

-- a kind of row made of an extract's row, and its batches: the rows of the lists whose rows are other ones than when they
-- were last there
module _ {R : Type 0} (parent_of : R → List ℕ) (load_of : R → ℕ) (cmp : R → R → Ordering) (make : Extract → NRow → R) (batch : List Extract → Extract → List R) (Single : List NRow → Type 0)
    (hashes : Hashes) (parents : (extract : Extract) (made : NRow) → parent_of (make extract made) ≡ hashes.hash made.refs)
    (loads : (extract : Extract) (made : NRow) → load_of (make extract made) ≡ extract.load)
    (is_batch : (older : List Extract) (newest : Extract) → Single newest.rows → IsApart hashes (all_refs newest.rows)
    → IsBatchOf cmp (λ row. if is_changed older newest row.refs then Some (make newest row) else None) newest.rows (batch older newest))
    (refs : List Key) (date : ℕ) where
  -- the extracts have such rows, and the list's hash key is its own
  abbrev pub AreGood : List Extract → Type 0
  AreGood all = ((extract : Extract) → Contains all extract → Single extract.rows) × AreApart hashes refs all

  good-older : (newest : Extract) (older : List Extract) → AreGood (newest ∷ older) → AreGood older
  good-older newest older good = (λ extract has. good.0 extract (Contains-cons_there newest older extract has), apart-older hashes refs newest older good.1)

  module _ (newest : Extract) (older : List Extract) (good : AreGood (newest ∷ older)) where
    batch_is : IsBatchOf cmp (λ row. if is_changed older newest row.refs then Some (make newest row) else None) newest.rows (batch older newest)
    batch_is =
        is_batch older newest (good.0 newest (Contains-cons_here newest older))
        (λ a b a_in b_in. good.1.0 a b (Contains-append_left (all_refs newest.rows) (lists_of older) a a_in) (Contains-append_left (all_refs newest.rows) (lists_of older) b b_in))

    -- a row of the batch under the list's hash key is made of one of the list's rows, and the list is changed
    own_row : (row : R) → Contains (batch older newest) row → parent_of row ≡ hashes.hash refs → (made : NRow) × Contains (rows_of newest.rows refs) made × (is_changed older newest refs ≡ true) × (row ≡ make newest made)
    own_row row has parent =
        let (made, member, gives) = batch_is.only row has in
        by made member (is_changed older newest made.refs) refl gives
      where
        by : (made : NRow) → Contains newest.rows made → (b : Bool) → is_changed older newest made.refs ≡ b → (if is_changed older newest made.refs then Some (make newest made) else None) ≡ Some row
            → (made : NRow) × Contains (rows_of newest.rows refs) made × (is_changed older newest refs ≡ true) × (row ≡ make newest made)
        by made member false e gives = let no : None ≡ Some row = rw e at gives in cc
        by made member true e gives =
            let some : Some (make newest made) ≡ Some row = rw e at gives in
            let is : make newest made ≡ row = cc in
            let delivered : Contains (lists_of (newest ∷ older)) made.refs = Contains-append_left (all_refs newest.rows) (lists_of older) made.refs (Contains-map (λ (row : NRow). row.refs) newest.rows made member) in
            let same : made.refs ≡ refs = good.1.1 made.refs delivered (sym (parents newest made) ∙ ap parent_of is ∙ parent) in
            (made, (filtered_members (λ (row : NRow). refs_eq row.refs refs) newest.rows made).1 (member, (refs_eq-Decides made.refs refs).1 same), ap (is_changed older newest) (sym same) ∙ e, sym is)

    -- each row of a changed list has its row
    changed_row : (made : NRow) → Contains (rows_of newest.rows refs) made → is_changed older newest refs ≡ true → Contains (batch older newest) (make newest made)
    changed_row made has changed =
        let (member, same) = of_list newest.rows refs made has in
        let there : is_changed older newest made.refs ≡ true = ap (is_changed older newest) same ∙ changed in
        batch_is.each made (make newest made) member (rw there refl)

    step : IsStep parent_of load_of batch (λ all. last_rows all refs) AreGood (hashes.hash refs) date newest older
    step = record {
      dated = λ row has parent. let (made, member, changed, is) = own_row row has parent in ap load_of is ∙ loads newest made;
      changes = by (delivers newest.rows refs) refl (is_changed older newest refs) refl;
    }
      where
        by : (here : Bool) → delivers newest.rows refs ≡ here → (changed : Bool) → is_changed older newest refs ≡ changed → Changes parent_of load_of batch (λ all. last_rows all refs) AreGood (hashes.hash refs) date newest older
        by false e changed f = inr (
          λ row has parent.
              let (made, member, changed, is) = own_row row has parent in
              let (there, same) = of_list newest.rows refs made member in
              let yes = some_passes_at (λ (row : NRow). refs_eq row.refs refs) newest.rows made there ((refs_eq-Decides made.refs refs).1 same) in
              false≢true (sym e ∙ yes),
          rw e refl,
        )
        by true e false f = inr (
          λ row has parent. let (made, member, changed, is) = own_row row has parent in false≢true (sym f ∙ changed),
          rw e (sym (changed_false (last_rows older refs) (rows_of newest.rows refs) f)),
        )
        by true e true f =
            let (made, there, same) = some_passes (λ (row : NRow). refs_eq row.refs refs) newest.rows e in
            let member : Contains (rows_of newest.rows refs) made = (filtered_members (λ (row : NRow). refs_eq row.refs refs) newest.rows made).1 (there, same) in
            inl (make newest made, changed_row made member f, parents newest made ∙ ap hashes.hash ((refs_eq-Decides made.refs refs).0 same))

  -- the rows that are valid for the list are those made of its rows in the newest extract that holds it
  pub record AreValid (all : List Extract) (rows : List R) : Type 0 where
    pub newest : Extract
    pub single : Single newest.rows
    pub told : last_rows (up_to date all) refs ≡ rows_of newest.rows refs
    pub last : R
    pub found : find (λ row. bytes_eq (parent_of row) (hashes.hash refs) && nat_le (load_of row) date) (reverse rows) ≡ Some last
    pub last_made : (made : NRow) × Contains (rows_of newest.rows refs) made × (last ≡ make newest made)
    pub only : (row : R) → Contains rows row → parent_of row ≡ hashes.hash refs → load_of row ≡ load_of last → (made : NRow) × Contains (rows_of newest.rows refs) made × (row ≡ make newest made)
    pub each : (made : NRow) → Contains (rows_of newest.rows refs) made → Contains rows (make newest made) × (load_of (make newest made) ≡ load_of last)

  -- there is none up to the date, and no extract holds the list; or they are
  pub valid_rows : (all : List Extract) → IsNewestFirst (λ (extract : Extract). extract.load) all → AreGood all
      → ((find (λ row. bytes_eq (parent_of row) (hashes.hash refs) && nat_le (load_of row) date) (reverse (appended batch all)) ≡ None) × (last_rows (up_to date all) refs ≡ [])) ⊎ AreValid all (appended batch all)
  valid_rows all order good = by (last_change parent_of load_of batch (λ all. last_rows all refs) AreGood (hashes.hash refs) date good-older step all order good)
    where
      by : Tells parent_of load_of batch (λ all. last_rows all refs) AreGood (hashes.hash refs) date all (appended batch all)
          → ((find (λ row. bytes_eq (parent_of row) (hashes.hash refs) && nat_le (load_of row) date) (reverse (appended batch all)) ≡ None) × (last_rows (up_to date all) refs ≡ [])) ⊎ AreValid all (appended batch all)
      by (inl none) = inl none
      by (inr is) =
          let (made, member, changed, made_is) = own_row is.newest is.older is.good is.last is.last_in is.last_of in
          let (there, same) = of_list is.newest.rows refs made member in
          let here : delivers is.newest.rows refs ≡ true = some_passes_at (λ (row : NRow). refs_eq row.refs refs) is.newest.rows made there ((refs_eq-Decides made.refs refs).1 same) in
          inr (record {
            newest = is.newest;
            single = is.good.0 is.newest (Contains-cons_here is.newest is.older);
            told = is.told ∙ rw here refl;
            last = is.last;
            found = is.found;
            last_made = (made, member, made_is);
            only = λ row has of load. let (own, own_in, own_changed, own_is) = own_row is.newest is.older is.good row (is.only row has of load) of in (own, own_in, own_is);
            each = λ other other_in.
                let row_in = changed_row is.newest is.older is.good other other_in changed in
                let parent = parents is.newest other ∙ ap hashes.hash (of_list is.newest.rows refs other other_in).1 in
                (is.each (make is.newest other) row_in, is.dated (make is.newest other) row_in parent);
          })
