-- The content of a valid feed, its rows' hash keys, and its status table in the vault.
use Rattle.dv_records.proofs.Vocabulary.{Bool, Contains, Contains-append_cases, Contains-append_right, Contains-flat_map, Contains-map, Contains-nil, Extract, FeedDef, Hashes, IsApart, IsStrictlySortedBy, Key, List, Mapping, NRow, None, Option, Some, StatusRow, Statuses, Window, [], all_refs}
use Rattle.dv_records.proofs.Vocabulary.{and_parts, ap, appended, are_windows_valid, bytes_eq, bytes_eq-Decides, code_of, content, delivered_refs, delivers, digest_cmp, false, filtered_members, find, found_member, history, inl, inr, is_valid, lists_of, made_of, map, map_member, member_after_sort}
use Rattle.dv_records.proofs.Vocabulary.{member_before_sort, nat_le, newest_rows, present_at, present_parents, refl, refs_eq, refs_eq-Decides, refs_read, reverse, reverse_member, row_cmp, says_present, slice_get, some_passes, some_passes_at, sorted_by, source_of, status_batch, status_cmp}
use Rattle.dv_records.proofs.Vocabulary.{status_row, status_rows_in, subst, sym, text_cmp-IsAntisymmetric, true, vault, ℕ, ◌&&◌, ◌++◌, ◌∙◌, ◌∷◌, ◌≡◌}
use Rattle.dv_records.proofs.{BatchTies.batch_made, FeedRefs.parent_apart, FeedRefs.refs_told, FeedSteps.appended-history, KnownLists.lists_apart, KnownLists.rows_valid, LastChange.lists_reversed, NewestRows.content_ascends as ascends, NewestRows.content_extract, Reversing.history_member}
use Rattle.dv_records.proofs.{StatusReconstruct.both_lists, StatusReconstruct.delivered_tells, ValidWindows.load_order, ValidWindows.whole, VaultRows.vault_status, WindowRows.AreRows, WindowRows.HasForm}

-- ---- status rows

-- each status row's parent is the hash key of a list that the extracts deliver
parent_delivered : (hashes : Hashes) (source : List ℕ) (all : List Extract) (row : StatusRow) → Contains (appended (status_batch hashes source) all) row → (refs : List Key) × Contains (lists_of all) refs × (row.parent ≡ hashes.hash refs)
parent_delivered hashes source [] row has = Contains-nil row has
parent_delivered hashes source (newest ∷ older) row has =
    elim (Contains-append_cases (appended (status_batch hashes source) older) (status_batch hashes source older newest) row has) [
      | inl before ↦
          let (refs, member, parent) = parent_delivered hashes source older row before in
          (refs, Contains-append_right (all_refs newest.rows) (lists_of older) refs member, parent)
      | inr now ↦
          let (refs, member, gives) = batch_made status_cmp (status_row hashes source older newest) (all_refs (newest_rows older) ++ all_refs newest.rows) row now in
          let (code, found, made) = made_of _ (code_of older newest refs) row gives in
          (refs, both_lists newest older refs member, ap (λ (r : StatusRow). r.parent) (sym made))
    ]

-- a parent that is present has a row
present_row : (rows : List StatusRow) (digest : List ℕ) (date : ℕ) → present_at rows digest date ≡ true → (row : StatusRow) × Contains rows row × (row.parent ≡ digest)
present_row rows digest date e = by (find is_up_to (reverse rows)) refl e
  where
    is_up_to : StatusRow → Bool
    is_up_to row = bytes_eq row.parent digest && nat_le row.load date

    by : (o : Option StatusRow) → find is_up_to (reverse rows) ≡ o → says_present (find is_up_to (reverse rows)) ≡ true → (row : StatusRow) × Contains rows row × (row.parent ≡ digest)
    by None found says = let no : false ≡ true = ap says_present (sym found) ∙ says in cc
    by (Some row) found says =
        let (member, same) = found_member is_up_to (reverse rows) row found in
        (row, (reverse_member rows row).0 member, (bytes_eq-Decides row.parent digest).0 (and_parts (bytes_eq row.parent digest) (nat_le row.load date) same).0)

-- so it is among the parents that are present
among_present : (rows : List StatusRow) (digest : List ℕ) (date : ℕ) → present_at rows digest date ≡ true → Contains (present_parents rows date) digest
among_present rows digest date e =
    let (row, member, parent) = present_row rows digest date e in
    let parents = map (λ (row : StatusRow). row.parent) rows in
    let has : Contains parents digest = subst (Contains parents) parent (Contains-map (λ (row : StatusRow). row.parent) rows row member) in
    (filtered_members (λ parent. present_at rows parent date) (sorted_by digest_cmp parents) digest).1
    (member_after_sort digest_cmp parents digest (λ x x_in same. text_cmp-IsAntisymmetric x digest same) has, e)

-- ---- a feed

module _ (mapping : Mapping) (hashes : Hashes) (sealed : List Window) (feed : ℕ) (definition : FeedDef) (valid : is_valid mapping ≡ true)
    (windows_valid : are_windows_valid mapping hashes sealed ≡ true) (at : slice_get mapping.feeds feed ≡ Some definition) where
  pub rows_of_extract : (extract : Extract) → Contains (history feed sealed) extract → AreRows mapping definition extract.rows
  rows_of_extract = rows_valid mapping hashes sealed (whole mapping hashes sealed windows_valid) feed definition at

  pub feed_apart : IsApart hashes (delivered_refs feed sealed)
  feed_apart = lists_apart mapping hashes sealed (whole mapping hashes sealed windows_valid) feed definition at (parent_apart mapping hashes sealed valid windows_valid feed definition at)

  -- the status table tells of each list that is delivered
  pub status_told : (refs : List Key) → Contains (delivered_refs feed sealed) refs → (date : ℕ) → present_at (status_rows_in feed (vault mapping hashes sealed)) (hashes.hash refs) date ≡ delivers (content feed sealed date) refs
  status_told refs has =
      let table = ap Statuses (sym (vault_status mapping hashes sealed feed definition at)) in
      delivered_tells mapping hashes feed sealed (status_rows_in feed (vault mapping hashes sealed)) table (load_order mapping hashes sealed windows_valid) feed_apart refs has

  -- a status row is of a list that is delivered
  pub status_parent : (row : StatusRow) → Contains (status_rows_in feed (vault mapping hashes sealed)) row → (refs : List Key) × Contains (delivered_refs feed sealed) refs × (row.parent ≡ hashes.hash refs)
  status_parent row has =
      let made = vault_status mapping hashes sealed feed definition at ∙ appended-history feed (status_batch hashes (source_of mapping feed)) (reverse sealed) in
      let (refs, member, parent) = parent_delivered hashes (source_of mapping feed) (history feed (reverse sealed)) row (subst (λ (rows : List StatusRow). Contains rows row) made has) in
      (refs, lists_reversed feed sealed refs member, parent)

  -- ---- the content

  module _ (date : ℕ) where
    -- a row of the content is one of an extract
    pub content_row : (row : NRow) → Contains (content feed sealed date) row → (extract : Extract) × Contains (history feed (reverse sealed)) extract × Contains extract.rows row
    content_row = content_extract feed sealed date

    pub content_delivered : (row : NRow) → Contains (content feed sealed date) row → Contains (delivered_refs feed sealed) row.refs
    content_delivered row has =
        let (extract, member, within) = content_row row has in
        lists_reversed feed sealed row.refs
        (Contains-flat_map (λ (extract : Extract). all_refs extract.rows) (history feed (reverse sealed)) extract row.refs member (Contains-map (λ (row : NRow). row.refs) extract.rows row within))

    pub content_ascends : IsStrictlySortedBy row_cmp (content feed sealed date)
    content_ascends = ascends feed sealed date (λ extract has. (rows_of_extract extract has).ascending)

    -- and has its feed's form
    pub row_form : (row : NRow) → Contains (content feed sealed date) row → HasForm mapping definition row
    row_form row has =
        let (extract, member, within) = content_row row has in
        (rows_of_extract extract ((history_member feed sealed extract).0 member)).forms row within

    -- its references are read back
    pub row_refs : (row : NRow) → Contains (content feed sealed date) row → refs_read mapping (vault mapping hashes sealed) definition.parent (hashes.hash row.refs) ≡ Some row.refs
    row_refs row has =
        let (extract, member, within) = content_row row has in
        refs_told mapping hashes sealed valid windows_valid feed definition at extract member row within (row_form row has)

    -- its parent is present
    pub row_present : (row : NRow) → Contains (content feed sealed date) row → Contains (present_parents (status_rows_in feed (vault mapping hashes sealed)) date) (hashes.hash row.refs)
    row_present row has =
        let delivered : delivers (content feed sealed date) row.refs ≡ true = some_passes_at (λ (r : NRow). refs_eq r.refs row.refs) (content feed sealed date) row has ((refs_eq-Decides row.refs row.refs).1 refl) in
        among_present (status_rows_in feed (vault mapping hashes sealed)) (hashes.hash row.refs) date (status_told row.refs (content_delivered row has) date ∙ delivered)

    -- and each parent that is present is that of a row
    pub present_has : (digest : List ℕ) → Contains (present_parents (status_rows_in feed (vault mapping hashes sealed)) date) digest → (row : NRow) × Contains (content feed sealed date) row × (hashes.hash row.refs ≡ digest)
    present_has digest has =
        let parents = map (λ (row : StatusRow). row.parent) (status_rows_in feed (vault mapping hashes sealed)) in
        let (sorted, present) = (filtered_members (λ parent. present_at (status_rows_in feed (vault mapping hashes sealed)) parent date) (sorted_by digest_cmp parents) digest).0 has in
        let (status, status_in, parent) = map_member (λ (row : StatusRow). row.parent) (status_rows_in feed (vault mapping hashes sealed)) digest (member_before_sort digest_cmp parents digest sorted) in
        let (refs, refs_in, hashed) = status_parent status status_in in
        let is : hashes.hash refs ≡ digest = sym hashed ∙ parent in
        let delivered : delivers (content feed sealed date) refs ≡ true =
        sym (status_told refs refs_in date) ∙ ap (λ d. present_at (status_rows_in feed (vault mapping hashes sealed)) d date) is ∙ present in
        let (row, member, same) = some_passes (λ (r : NRow). refs_eq r.refs refs) (content feed sealed date) delivered in
        (row, member, ap hashes.hash ((refs_eq-Decides row.refs refs).0 same) ∙ is)
