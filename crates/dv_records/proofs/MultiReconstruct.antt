-- The multi-active satellite rows of a feed say at each date which rows a list had when it was last there.
use Rattle.dv_records.proofs.Vocabulary.{Bool, Contains, Contains-map, Contains-nil, Extract, HasOneRowPerSub, Hashes, IsApart, IsInLoadOrder, IsMultiBatch, IsOnePerSub, Key, List, Mapping, Multi, MultiRow, Multis, NRow, None, Option, Some, Window, [], all_refs, all_valid_at, and_from, and_parts}
use Rattle.dv_records.proofs.Vocabulary.{ap, appended, backwards, bytes_eq, bytes_eq-Decides, delivered_refs, described_row, eq-eqb, eqb-true, filtered_members, find, history, inl, inr, last_rows, lists_of, loaded_with, map, map_member, multi_batch, multi_cmp, multi_rows, nat_le, refl, reverse}
use Rattle.dv_records.proofs.Vocabulary.{rows_of, source_of, subst, sym, table_after, up_to, ℕ, ◌&&◌, ◌==◌, ◌↔◌, ◌∙◌, ◌≡◌, ◌⊎◌}
use Rattle.dv_records.proofs.{ChangedRows.AreValid, ChangedRows.of_list, ChangedRows.valid_rows, FeedSteps.feed_rows, LastChange.IsOwn, LastChange.apart-reversed, Reversing.IsNewestFirst, Reversing.history-newest_first, Reversing.history_member, SatelliteTies.multi_tied}

module _ (hashes : Hashes) (source : List ℕ) (refs : List Key) (date : ℕ) where
  -- the multi-active row of an extract's row
  abbrev made_row : Extract → NRow → MultiRow
  made_row extract row = record { parent = hashes.hash row.refs; load = extract.load; source = source; diff = hashes.diff row.attrs; sub = row.sub; attrs = row.attrs }

  described : (extract : Extract) (made : NRow) → made.refs ≡ refs → described_row refs (made_row extract made) ≡ made
  described extract made same i = record { refs = sym same i; sub = made.sub; attrs = made.attrs }

  abbrev with_load : MultiRow → MultiRow → Bool
  with_load last row = bytes_eq row.parent (hashes.hash refs) && row.load == last.load

  pub tells : (all : List Extract) → IsNewestFirst (λ (extract : Extract). extract.load) all → ((extract : Extract) → Contains all extract → IsOnePerSub extract.rows) → IsApart hashes (lists_of all) → IsOwn hashes refs all
      → (said : NRow) → Contains (map (described_row refs) (all_valid_at (appended (multi_batch hashes source) all) (hashes.hash refs) date)) said ↔ Contains (last_rows (up_to date all) refs) said
  tells all order single apart own said =
      by
      (valid_rows (λ (row : MultiRow). row.parent) (λ (row : MultiRow). row.load) multi_cmp made_row (multi_batch hashes source) IsOnePerSub hashes (λ extract made. refl) (λ extract made. refl) is_batch refs date all order
      (single, (apart, own)))
    where
      is_batch : (older : List Extract) (newest : Extract) → IsOnePerSub newest.rows → IsApart hashes (all_refs newest.rows) → IsMultiBatch hashes source older newest (multi_batch hashes source older newest)
      is_batch older newest single apart = (multi_tied hashes source older newest single apart (multi_batch hashes source older newest)).0 refl

      rows : List MultiRow
      rows = appended (multi_batch hashes source) all

      last : Option MultiRow
      last = find (λ row. bytes_eq row.parent (hashes.hash refs) && nat_le row.load date) (reverse rows)

      Said : Option MultiRow → Type 0
      Said o = Contains (map (described_row refs) (loaded_with rows (hashes.hash refs) o)) said

      by : ((last ≡ None) × (last_rows (up_to date all) refs ≡ []))
          ⊎ AreValid (λ (row : MultiRow). row.parent) (λ (row : MultiRow). row.load) multi_cmp made_row (multi_batch hashes source) IsOnePerSub hashes (λ extract made. refl) (λ extract made. refl) is_batch refs date all rows
          → Said last ↔ Contains (last_rows (up_to date all) refs) said
      by (inl none) = (λ has. Contains-nil said (subst Said none.0 has), λ has. Contains-nil said (subst (λ (rows : List NRow). Contains rows said) none.1 has))
      by (inr is) = (to, from)
        where
          to : Said last → Contains (last_rows (up_to date all) refs) said
          to has =
              let (row, member, says) = map_member (described_row refs) (loaded_with rows (hashes.hash refs) (Some is.last)) said (subst Said is.found has) in
              let (there, passes) = (filtered_members (with_load is.last) rows row).0 member in
              let (parent, load) = and_parts (bytes_eq row.parent (hashes.hash refs)) (row.load == is.last.load) passes in
              let (made, made_in, made_is) = is.only row there ((bytes_eq-Decides row.parent (hashes.hash refs)).0 parent) (eqb-true row.load is.last.load load) in
              let same : made ≡ said = sym (described is.newest made (of_list is.newest.rows refs made made_in).1) ∙ ap (described_row refs) (sym made_is) ∙ says in
              subst (λ (rows : List NRow). Contains rows said) (sym is.told) (subst (Contains (rows_of is.newest.rows refs)) same made_in)

          from : Contains (last_rows (up_to date all) refs) said → Said last
          from has =
              let said_in : Contains (rows_of is.newest.rows refs) said = subst (λ (rows : List NRow). Contains rows said) is.told has in
              let same = (of_list is.newest.rows refs said said_in).1 in
              let (there, load) = is.each said said_in in
              let row = made_row is.newest said in
              let passes = and_from (bytes_eq row.parent (hashes.hash refs)) (row.load == is.last.load) ((bytes_eq-Decides row.parent (hashes.hash refs)).1 (ap hashes.hash same)) (eq-eqb row.load is.last.load load) in
              let member = (filtered_members (with_load is.last) rows row).1 (there, passes) in
              subst Said (sym is.found)
              (subst (Contains (map (described_row refs) (loaded_with rows (hashes.hash refs) (Some is.last)))) (described is.newest said same)
              (Contains-map (described_row refs) (loaded_with rows (hashes.hash refs) (Some is.last)) row member))

-- ---- windows

module _ (mapping : Mapping) (hashes : Hashes) (feed : ℕ) (sealed : List Window) (rows : List MultiRow) (table : table_after mapping hashes (backwards sealed) (Multi feed) ≡ Multis rows)
    (order : IsInLoadOrder sealed) (single : HasOneRowPerSub feed sealed) (apart : IsApart hashes (delivered_refs feed sealed)) (refs : List Key) where
  pub multi_tells : IsOwn hashes refs (history feed sealed)
      → (date : ℕ) (row : NRow) → Contains (map (described_row refs) (all_valid_at rows (hashes.hash refs) date)) row ↔ Contains (last_rows (up_to date (history feed (reverse sealed))) refs) row
  multi_tells own date row =
      let all = apart-reversed hashes feed sealed refs apart own in
      rw (feed_rows feed (multi_batch hashes (source_of mapping feed)) (reverse sealed) rows (ap multi_rows table))
      (tells hashes (source_of mapping feed) refs date (history feed (reverse sealed)) (history-newest_first feed sealed order)
      (λ extract has. single extract ((history_member feed sealed extract).0 has)) all.0 all.1 row)
