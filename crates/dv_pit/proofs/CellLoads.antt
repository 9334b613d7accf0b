-- The load date of a point-in-time cell is that of the satellite rows that are valid at its date.
use Rattle.dv_pit.proofs.Vocabulary.{AreApart, Bool, Changes, Contains, Contains-append_left, Contains-cons_here, Contains-cons_there, Contains-map, Contains-nil, Extract, HasOneRowEach, HasOneRowPerSub, Hashes, IsApart, IsBatchOf, IsInLoadOrder, IsMultiBatch, IsNewestFirst, IsOnePerList}
use Rattle.dv_pit.proofs.Vocabulary.{IsOnePerSub, IsSatBatch, IsStep, Key, List, Mapping, Multi, MultiRow, Multis, NRow, None, Option, Ordering, Sat, SatRow, Sats, Some, Tells, Window, all_refs, all_valid_at, and_from, and_parts, ap, apart-older, apart-reversed, appended, backwards, bytes_eq}
use Rattle.dv_pit.proofs.Vocabulary.{changed_at, delivered_refs, delivers, eq-eqb, eqb-true, false, false≢true, feed_rows, filtered_members, find, found_member, history, history-newest_first, history_member, if◌then◌else◌, inl, inr, is_changed, last_change, lists_of, loaded_with, multi_batch}
use Rattle.dv_pit.proofs.Vocabulary.{multi_cmp, multi_rows, multi_tied, nat_le, option_map, refl, refs_eq, refs_eq-Decides, reverse, reverse_member, sat_batch, sat_cmp, sat_rows, sat_tied, some_passes, some_passes_at, source, sym, table_after, true, up_to, valid_at, ℕ, ◌&&◌, ◌==◌, ◌↔◌, ◌∙◌, ◌∷◌}
use Rattle.dv_pit.proofs.Vocabulary.{◌≡◌}

-- a kind of row made of an extract's row, and its batches: the rows of the lists whose rows are other ones than when they
-- were last there
module _ {R : Type 0} (parent_of : R → List ℕ) (load_of : R → ℕ) (cmp : R → R → Ordering) (make : Extract → NRow → R) (batch : List Extract → Extract → List R) (Single : List NRow → Type 0)
    (hashes : Hashes) (parents : (extract : Extract) (made : NRow) → parent_of (make extract made) ≡ hashes.hash made.refs)
    (loads : (extract : Extract) (made : NRow) → load_of (make extract made) ≡ extract.load)
    (is_batch : (older : List Extract) (newest : Extract) → Single newest.rows → IsApart hashes (all_refs newest.rows)
    → IsBatchOf cmp (λ row. if is_changed older newest row.refs then Some (make newest row) else None) newest.rows (batch older newest))
    (refs : List Key) (date : ℕ) where
  abbrev Good : List Extract → Type 0
  Good all = ((extract : Extract) → Contains all extract → Single extract.rows) × AreApart hashes refs all

  good-older : (newest : Extract) (older : List Extract) → Good (newest ∷ older) → Good older
  good-older newest older good = (λ extract has. good.0 extract (Contains-cons_there newest older extract has), apart-older hashes refs newest older good.1)

  module _ (newest : Extract) (older : List Extract) (good : Good (newest ∷ older)) where
    abbrev adds : Bool
    adds = delivers newest.rows refs && is_changed older newest refs

    batch_is : IsBatchOf cmp (λ row. if is_changed older newest row.refs then Some (make newest row) else None) newest.rows (batch older newest)
    batch_is =
        is_batch older newest (good.0 newest (Contains-cons_here newest older))
        (λ a b a_in b_in. good.1.0 a b (Contains-append_left (all_refs newest.rows) (lists_of older) a a_in) (Contains-append_left (all_refs newest.rows) (lists_of older) b b_in))

    -- a row of the batch under the list's hash key has the new load date, and then the extract adds rows of the list
    own_row : (row : R) → Contains (batch older newest) row → parent_of row ≡ hashes.hash refs → (load_of row ≡ newest.load) × (adds ≡ true)
    own_row row has parent =
        let (made, member, gives) = batch_is.only row has in
        by made member (is_changed older newest made.refs) refl gives
      where
        by : (made : NRow) → Contains newest.rows made → (b : Bool) → is_changed older newest made.refs ≡ b → (if is_changed older newest made.refs then Some (make newest made) else None) ≡ Some row
            → (load_of row ≡ newest.load) × (adds ≡ true)
        by made member false e gives = let no : None ≡ Some row = rw e at gives in cc
        by made member true e gives =
            let some : Some (make newest made) ≡ Some row = rw e at gives in
            let is : make newest made ≡ row = cc in
            let delivered : Contains (lists_of (newest ∷ older)) made.refs = Contains-append_left (all_refs newest.rows) (lists_of older) made.refs (Contains-map (λ (row : NRow). row.refs) newest.rows made member) in
            let same : made.refs ≡ refs = good.1.1 made.refs delivered (sym (parents newest made) ∙ ap parent_of is ∙ parent) in
            let here : delivers newest.rows refs ≡ true = some_passes_at (λ (row : NRow). refs_eq row.refs refs) newest.rows made member ((refs_eq-Decides made.refs refs).1 same) in
            (ap load_of (sym is) ∙ loads newest made, and_from _ _ here (ap (is_changed older newest) (sym same) ∙ e))

    step : IsStep parent_of load_of batch (λ all. changed_at all refs) Good (hashes.hash refs) date newest older
    step = record { dated = λ row has parent. (own_row row has parent).0; changes = by adds refl }
      where
        by : (b : Bool) → adds ≡ b → Changes parent_of load_of batch (λ all. changed_at all refs) Good (hashes.hash refs) date newest older
        by false e = inr (λ row has parent. false≢true (sym e ∙ (own_row row has parent).1), rw e refl)
        by true e =
            let (here, changed) = and_parts (delivers newest.rows refs) (is_changed older newest refs) e in
            let (made, there, same) = some_passes (λ (row : NRow). refs_eq row.refs refs) newest.rows here in
            let is : made.refs ≡ refs = (refs_eq-Decides made.refs refs).0 same in
            let now : is_changed older newest made.refs ≡ true = ap (is_changed older newest) is ∙ changed in
            inl (make newest made, batch_is.each made (make newest made) there (rw now refl), parents newest made ∙ ap hashes.hash is)

  pub load_told : (all : List Extract) → IsNewestFirst (λ (extract : Extract). extract.load) all → Good all
      → option_map load_of (find (λ row. bytes_eq (parent_of row) (hashes.hash refs) && nat_le (load_of row) date) (reverse (appended batch all))) ≡ changed_at (up_to date all) refs
  load_told all order good = by (last_change parent_of load_of batch (λ all. changed_at all refs) Good (hashes.hash refs) date good-older step all order good)
    where
      by : Tells parent_of load_of batch (λ all. changed_at all refs) Good (hashes.hash refs) date all (appended batch all)
          → option_map load_of (find (λ row. bytes_eq (parent_of row) (hashes.hash refs) && nat_le (load_of row) date) (reverse (appended batch all))) ≡ changed_at (up_to date all) refs
      by (inl none) = ap (option_map load_of) none.0 ∙ sym none.1
      by (inr is) =
          let (load, adds) = own_row is.newest is.older is.good is.last is.last_in is.last_of in
          let value : changed_at (is.newest ∷ is.older) refs ≡ Some is.newest.load = rw adds refl in
          ap (option_map load_of) is.found ∙ ap Some load ∙ sym (is.told ∙ value)

-- ---- satellites

module _ (mapping : Mapping) (hashes : Hashes) (feed : ℕ) (sealed : List Window) (rows : List SatRow) (table : table_after mapping hashes (backwards sealed) (Sat feed) ≡ Sats rows)
    (order : IsInLoadOrder sealed) (single : HasOneRowEach feed sealed) (apart : IsApart hashes (delivered_refs feed sealed)) (refs : List Key) where
  abbrev sat_made : Extract → NRow → SatRow
  sat_made extract row = record { parent = hashes.hash row.refs; load = extract.load; source = source mapping feed; diff = hashes.diff row.attrs; attrs = row.attrs }

  pub sat_cells : ((other : List Key) → Contains (delivered_refs feed sealed) other → hashes.hash other ≡ hashes.hash refs → other ≡ refs)
      → (date : ℕ) → option_map (λ row. row.load) (valid_at rows (hashes.hash refs) date) ≡ changed_at (up_to date (history feed (reverse sealed))) refs
  sat_cells own date =
      let all = apart-reversed hashes feed sealed refs apart own in
      rw (feed_rows feed (sat_batch hashes (source mapping feed)) (reverse sealed) rows (ap sat_rows table))
      (load_told (λ (row : SatRow). row.parent) (λ (row : SatRow). row.load) sat_cmp sat_made (sat_batch hashes (source mapping feed)) IsOnePerList hashes (λ extract made. refl) (λ extract made. refl) is_batch refs date
      (history feed (reverse sealed)) (history-newest_first feed sealed order) (λ extract has. single extract ((history_member feed sealed extract).0 has), all))
    where
      is_batch : (older : List Extract) (newest : Extract) → IsOnePerList newest.rows → IsApart hashes (all_refs newest.rows) → IsSatBatch hashes (source mapping feed) older newest (sat_batch hashes (source mapping feed) older newest)
      is_batch older newest single apart = (sat_tied hashes (source mapping feed) older newest single apart (sat_batch hashes (source mapping feed) older newest)).0 refl

-- ---- multi-active satellites

-- the rows with the load date of the last one are there exactly where there is a last one, and have its load date
rows_loaded : (rows : List MultiRow) (parent : List ℕ) (date load : ℕ) (o : Option MultiRow) → find (λ row. bytes_eq row.parent parent && nat_le row.load date) (reverse rows) ≡ o
    → (option_map (λ (row : MultiRow). row.load) o ≡ Some load) ↔ ((row : MultiRow) × Contains (loaded_with rows parent o) row × (row.load ≡ load))
rows_loaded rows parent date load None e = (λ no. let none : None ≡ Some load = no in cc, λ (row, has, is). Contains-nil row has)
rows_loaded rows parent date load (Some last) e = (
  λ is.
      let (has, passes) = found_member (λ (row : MultiRow). bytes_eq row.parent parent && nat_le row.load date) (reverse rows) last e in
      let member : Contains rows last = (reverse_member rows last).0 has in
      let (of, reached) = and_parts (bytes_eq last.parent parent) (nat_le last.load date) passes in
      let same : last.load ≡ load = cc in
      (last, (filtered_members (λ (row : MultiRow). bytes_eq row.parent parent && row.load == last.load) rows last).1 (member, and_from _ _ of (eq-eqb last.load last.load refl)), same),
  λ (row, has, is).
      let (member, passes) = (filtered_members (λ (row : MultiRow). bytes_eq row.parent parent && row.load == last.load) rows row).0 has in
      let (of, loaded) = and_parts (bytes_eq row.parent parent) (row.load == last.load) passes in
      ap Some (sym (eqb-true row.load last.load loaded) ∙ is),
)

module _ (mapping : Mapping) (hashes : Hashes) (feed : ℕ) (sealed : List Window) (rows : List MultiRow) (table : table_after mapping hashes (backwards sealed) (Multi feed) ≡ Multis rows)
    (order : IsInLoadOrder sealed) (single : HasOneRowPerSub feed sealed) (apart : IsApart hashes (delivered_refs feed sealed)) (refs : List Key) where
  abbrev multi_made : Extract → NRow → MultiRow
  multi_made extract row = record { parent = hashes.hash row.refs; load = extract.load; source = source mapping feed; diff = hashes.diff row.attrs; sub = row.sub; attrs = row.attrs }

  pub multi_cells : ((other : List Key) → Contains (delivered_refs feed sealed) other → hashes.hash other ≡ hashes.hash refs → other ≡ refs)
      → (date load : ℕ) → (changed_at (up_to date (history feed (reverse sealed))) refs ≡ Some load) ↔ ((row : MultiRow) × Contains (all_valid_at rows (hashes.hash refs) date) row × (row.load ≡ load))
  multi_cells own date load =
      let ties = rows_loaded rows (hashes.hash refs) date load (find (λ row. bytes_eq row.parent (hashes.hash refs) && nat_le row.load date) (reverse rows)) refl in
      (λ is. ties.0 (told ∙ is), λ there. sym told ∙ ties.1 there)
    where
      is_batch : (older : List Extract) (newest : Extract) → IsOnePerSub newest.rows → IsApart hashes (all_refs newest.rows) → IsMultiBatch hashes (source mapping feed) older newest (multi_batch hashes (source mapping feed) older newest)
      is_batch older newest single apart = (multi_tied hashes (source mapping feed) older newest single apart (multi_batch hashes (source mapping feed) older newest)).0 refl

      told : option_map (λ (row : MultiRow). row.load) (find (λ row. bytes_eq row.parent (hashes.hash refs) && nat_le row.load date) (reverse rows)) ≡ changed_at (up_to date (history feed (reverse sealed))) refs
      told =
          let all = apart-reversed hashes feed sealed refs apart own in
          rw (feed_rows feed (multi_batch hashes (source mapping feed)) (reverse sealed) rows (ap multi_rows table))
          (load_told (λ (row : MultiRow). row.parent) (λ (row : MultiRow). row.load) multi_cmp multi_made (multi_batch hashes (source mapping feed)) IsOnePerSub hashes (λ extract made. refl) (λ extract made. refl) is_batch refs date
          (history feed (reverse sealed)) (history-newest_first feed sealed order) (λ extract has. single extract ((history_member feed sealed extract).0 has), all))
