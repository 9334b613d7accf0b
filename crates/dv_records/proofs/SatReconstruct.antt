-- The satellite rows of a feed say at each date which attributes a list had when it was last there.
use Rattle.dv_records.proofs.Vocabulary.{Contains, Extract, HasOneRowEach, Hashes, IsApart, IsInLoadOrder, IsOnePerList, IsSatBatch, Key, List, Mapping, NRow, None, Sat, SatRow, Sats, Some, Window, [], all_refs, ap, appended, backwards, bytes_eq, delivered_refs, find, first_attrs, history, inl}
use Rattle.dv_records.proofs.Vocabulary.{inr, last_rows, lists_of, nat_le, option_map, refl, reverse, sat_batch, sat_cmp, sat_rows, source_of, sym, table_after, up_to, valid_at, ℕ, ◌&&◌, ◌∙◌, ◌≡◌, ◌⊎◌}
use Rattle.dv_records.proofs.{ChangedRows.AreValid, ChangedRows.only_attrs, ChangedRows.valid_rows, FeedSteps.feed_rows, LastChange.IsOwn, LastChange.apart-reversed, Reversing.IsNewestFirst, Reversing.history-newest_first, Reversing.history_member, SatelliteTies.sat_tied}

module _ (hashes : Hashes) (source : List ℕ) (refs : List Key) (date : ℕ) where
  -- the satellite row of an extract's row
  abbrev made_row : Extract → NRow → SatRow
  made_row extract row = record { parent = hashes.hash row.refs; load = extract.load; source = source; diff = hashes.diff row.attrs; attrs = row.attrs }

  -- the rows of all extracts say what the newest one up to the date that holds the list had
  pub tells : (all : List Extract) → IsNewestFirst (λ (extract : Extract). extract.load) all → ((extract : Extract) → Contains all extract → IsOnePerList extract.rows) → IsApart hashes (lists_of all) → IsOwn hashes refs all
      → option_map (λ (row : SatRow). row.attrs) (find (λ row. bytes_eq row.parent (hashes.hash refs) && nat_le row.load date) (reverse (appended (sat_batch hashes source) all))) ≡ first_attrs (last_rows (up_to date all) refs)
  tells all order single apart own =
      by
      (valid_rows (λ (row : SatRow). row.parent) (λ (row : SatRow). row.load) sat_cmp made_row (sat_batch hashes source) IsOnePerList hashes (λ extract made. refl) (λ extract made. refl) is_batch refs date all order
      (single, (apart, own)))
    where
      is_batch : (older : List Extract) (newest : Extract) → IsOnePerList newest.rows → IsApart hashes (all_refs newest.rows) → IsSatBatch hashes source older newest (sat_batch hashes source older newest)
      is_batch older newest single apart = (sat_tied hashes source older newest single apart (sat_batch hashes source older newest)).0 refl

      by : ((find (λ (row : SatRow). bytes_eq row.parent (hashes.hash refs) && nat_le row.load date) (reverse (appended (sat_batch hashes source) all)) ≡ None) × (last_rows (up_to date all) refs ≡ []))
          ⊎ AreValid (λ (row : SatRow). row.parent) (λ (row : SatRow). row.load) sat_cmp made_row (sat_batch hashes source) IsOnePerList hashes (λ extract made. refl) (λ extract made. refl) is_batch refs date all
          (appended (sat_batch hashes source) all)
          → option_map (λ (row : SatRow). row.attrs) (find (λ row. bytes_eq row.parent (hashes.hash refs) && nat_le row.load date) (reverse (appended (sat_batch hashes source) all))) ≡ first_attrs (last_rows (up_to date all) refs)
      by (inl none) = ap (option_map (λ (row : SatRow). row.attrs)) none.0 ∙ ap first_attrs (sym none.1)
      by (inr is) =
          let (made, member, made_is) = is.last_made in
          ap (option_map (λ (row : SatRow). row.attrs)) is.found ∙ ap (λ (row : SatRow). Some row.attrs) made_is
          ∙ sym (ap first_attrs is.told ∙ only_attrs is.newest.rows is.single refs made member)

-- ---- windows

module _ (mapping : Mapping) (hashes : Hashes) (feed : ℕ) (sealed : List Window) (rows : List SatRow) (table : table_after mapping hashes (backwards sealed) (Sat feed) ≡ Sats rows)
    (order : IsInLoadOrder sealed) (single : HasOneRowEach feed sealed) (apart : IsApart hashes (delivered_refs feed sealed)) (refs : List Key) where
  pub sat_tells : IsOwn hashes refs (history feed sealed)
      → (date : ℕ) → option_map (λ row. row.attrs) (valid_at rows (hashes.hash refs) date) ≡ first_attrs (last_rows (up_to date (history feed (reverse sealed))) refs)
  sat_tells own date =
      let all = apart-reversed hashes feed sealed refs apart own in
      rw (feed_rows feed (sat_batch hashes (source_of mapping feed)) (reverse sealed) rows (ap sat_rows table))
      (tells hashes (source_of mapping feed) refs date (history feed (reverse sealed)) (history-newest_first feed sealed order)
      (λ extract has. single extract ((history_member feed sealed extract).0 has)) all.0 all.1)
