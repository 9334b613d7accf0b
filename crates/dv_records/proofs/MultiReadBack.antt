-- The content of a feed with a sub, and so that of any feed, is read back from the tables of the vault.
use Rattle.dv_records.proofs.Vocabulary.{Bool, Contains, Contains-flat_map, Contains-nil, Extract, FeedDef, HasOneRowPerSub, Hashes, Key, List, Mapping, Multis, NRow, None, Option, Some, TableRows, Window, [], all_valid_at, any_content_read, any_content_read_by, ap, are_windows_valid, content}
use Rattle.dv_records.proofs.Vocabulary.{delivered_refs, delivers, described_row, eqb-true, false, filtered_members, flat_map, flat_map_member, history, is_valid, last_rows, length, map, multi_content_read, multi_content_read_by, multi_rows_in, newest_rows, nil_from_length, not-true}
use Rattle.dv_records.proofs.Vocabulary.{option_map_or, present_parents, refl, refs_eq, refs_eq-Decides, reverse, row_cmp-IsAntisymmetric, row_total, rows_of, rows_read, slice_get, some_passes_at, sorted_by-members, status_rows_in, subst, sym, true, up_to, valid_feed, vault, ℕ, ◌==◌, ◌↔◌, ◌∙◌}
use Rattle.dv_records.proofs.Vocabulary.{◌∷◌, ◌≡◌}
use Rattle.dv_records.proofs.{FeedContents.rows_of_extract, FeedContents.content_ascends, FeedContents.content_delivered, FeedContents.feed_apart, FeedContents.present_has, FeedContents.row_present, FeedContents.row_refs, ReadBack.feed_tells, ValidWindows.load_order, ValidWindows.no_history}
use Rattle.dv_records.proofs.{VaultRows.vault_multi, MultiReconstruct.multi_tells}

-- ---- the last rows

-- a row of the newest extract is among the last rows of its list
last_has : (all : List Extract) (row : NRow) → Contains (newest_rows all) row → Contains (last_rows all row.refs) row
last_has [] row has = Contains-nil row has
last_has (newest ∷ older) row has =
    let same = (refs_eq-Decides row.refs row.refs).1 refl in
    let here : delivers newest.rows row.refs ≡ true = some_passes_at (λ (r : NRow). refs_eq r.refs row.refs) newest.rows row has same in
    rw here ((filtered_members (λ (r : NRow). refs_eq r.refs row.refs) newest.rows row).1 (has, same))

-- where it delivers the list, these are its rows
last_newest : (all : List Extract) (refs : List Key) → delivers (newest_rows all) refs ≡ true → (row : NRow) → Contains (last_rows all refs) row → Contains (newest_rows all) row
last_newest [] refs here row has = Contains-nil row has
last_newest (newest ∷ older) refs here row has =
    let rows : Contains (rows_of newest.rows refs) row = rw here at has in
    ((filtered_members (λ (r : NRow). refs_eq r.refs refs) newest.rows row).0 rows).0

-- ---- the theorem

module _ (mapping : Mapping) (hashes : Hashes) (sealed : List Window) (feed : ℕ) (definition : FeedDef) (valid : is_valid mapping ≡ true)
    (windows_valid : are_windows_valid mapping hashes sealed ≡ true) (at : slice_get mapping.feeds feed ≡ Some definition) (some : (length definition.sub == 0) ≡ false) where
  abbrev tables : List TableRows
  tables = vault mapping hashes sealed

  single : HasOneRowPerSub feed sealed
  single extract has = (rows_of_extract mapping hashes sealed feed definition valid windows_valid at extract has).single

  -- a feed with a sub has attributes
  described : (length definition.attrs == 0) ≡ false
  described = not-true (length definition.attrs == 0) (rw some at (valid_feed mapping valid feed definition at).described)

  module _ (date : ℕ) where
    -- the rows of a list that is delivered are read back
    valid_told : (refs : List Key) → Contains (delivered_refs feed sealed) refs → (row : NRow)
        → Contains (map (described_row refs) (all_valid_at (multi_rows_in feed tables) (hashes.hash refs) date)) row ↔ Contains (last_rows (up_to date (history feed (reverse sealed))) refs) row
    valid_told refs delivered row =
        let apart = feed_apart mapping hashes sealed feed definition valid windows_valid at in
        multi_tells mapping hashes feed sealed (multi_rows_in feed tables) (ap Multis (sym (vault_multi mapping hashes sealed feed definition at some described))) (load_order mapping hashes sealed windows_valid) single apart refs
        (λ other other_in same. apart other refs other_in delivered same) date row

    rows_told : (row : NRow) → Contains (content feed sealed date) row
        → rows_read mapping tables definition feed date (hashes.hash row.refs) ≡ map (described_row row.refs) (all_valid_at (multi_rows_in feed tables) (hashes.hash row.refs) date)
    rows_told row has =
        ap (λ (o : Option (List Key)). option_map_or (λ refs. map (described_row refs) (all_valid_at (multi_rows_in feed tables) (hashes.hash row.refs) date)) o [])
        (row_refs mapping hashes sealed feed definition valid windows_valid at date row has)

    abbrev parents : List (List ℕ)
    parents = present_parents (status_rows_in feed tables) date

    there : (row : NRow) → Contains (content feed sealed date) row → Contains (flat_map (rows_read mapping tables definition feed date) parents) row
    there row has =
        let delivered = content_delivered mapping hashes sealed feed definition valid windows_valid at date row has in
        let listed = (valid_told row.refs delivered row).1 (last_has (up_to date (history feed (reverse sealed))) row has) in
        Contains-flat_map (rows_read mapping tables definition feed date) parents (hashes.hash row.refs) row
        (row_present mapping hashes sealed feed definition valid windows_valid at date row has)
        (subst (λ (rows : List NRow). Contains rows row) (sym (rows_told row has)) listed)

    back : (row : NRow) → Contains (flat_map (rows_read mapping tables definition feed date) parents) row → Contains (content feed sealed date) row
    back row has =
        let (digest, member, within) = flat_map_member (rows_read mapping tables definition feed date) parents row has in
        let (found, found_in, is) = present_has mapping hashes sealed feed definition valid windows_valid at date digest member in
        let delivered = content_delivered mapping hashes sealed feed definition valid windows_valid at date found found_in in
        let read : Contains (rows_read mapping tables definition feed date (hashes.hash found.refs)) row = subst (λ d. Contains (rows_read mapping tables definition feed date d) row) (sym is) within in
        let listed = subst (λ (rows : List NRow). Contains rows row) (rows_told found found_in) read in
        let here : delivers (content feed sealed date) found.refs ≡ true = some_passes_at (λ (r : NRow). refs_eq r.refs found.refs) (content feed sealed date) found found_in ((refs_eq-Decides found.refs found.refs).1 refl) in
        last_newest (up_to date (history feed (reverse sealed))) found.refs here row ((valid_told found.refs delivered row).0 listed)

    pub multi_feed_tells : multi_content_read mapping (vault mapping hashes sealed) feed date ≡ content feed sealed date
    multi_feed_tells =
        ap (λ (o : Option FeedDef). multi_content_read_by mapping tables o feed date) at
        ∙ sym
        (sorted_by-members row_total row_cmp-IsAntisymmetric (flat_map (rows_read mapping tables definition feed date) parents) (content feed sealed date)
        (content_ascends mapping hashes sealed feed definition valid windows_valid at date) (λ row. (there row, back row)))

-- ---- any feed

module _ (mapping : Mapping) (hashes : Hashes) (sealed : List Window) (valid : is_valid mapping ≡ true) (windows_valid : are_windows_valid mapping hashes sealed ≡ true) where
  -- a feed that the mapping hasn't has no content
  no_content : (feed date : ℕ) → slice_get mapping.feeds feed ≡ None → content feed sealed date ≡ []
  no_content feed date none = ap (λ (all : List Extract). newest_rows (up_to date all)) (no_history mapping hashes sealed windows_valid feed none)

  pub vault_tells : (feed date : ℕ) → any_content_read mapping (vault mapping hashes sealed) feed date ≡ content feed sealed date
  vault_tells feed date = by (slice_get mapping.feeds feed) refl
    where
      either : (definition : FeedDef) → slice_get mapping.feeds feed ≡ Some definition → (b : Bool) → (length definition.sub == 0) ≡ b
          → any_content_read_by mapping (vault mapping hashes sealed) (Some definition) feed date ≡ content feed sealed date
      either definition at true e = rw e (feed_tells mapping hashes sealed feed definition valid windows_valid at (nil_from_length definition.sub (eqb-true (length definition.sub) 0 e)) date)
      either definition at false e = rw e (multi_feed_tells mapping hashes sealed feed definition valid windows_valid at e date)

      by : (o : Option FeedDef) → slice_get mapping.feeds feed ≡ o → any_content_read mapping (vault mapping hashes sealed) feed date ≡ content feed sealed date
      by None at = ap (λ (o : Option FeedDef). any_content_read_by mapping (vault mapping hashes sealed) o feed date) at ∙ sym (no_content feed date at)
      by (Some definition) at = ap (λ (o : Option FeedDef). any_content_read_by mapping (vault mapping hashes sealed) o feed date) at ∙ either definition at (length definition.sub == 0) refl
