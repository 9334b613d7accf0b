-- Over the table of older extracts, what the newest one adds row by row is its batch.
use Rattle.dv_track.proofs.Vocabulary.{AreNewestFirst, Contains, Contains-all_refs, Contains-append_cases, Contains-append_left, Contains-append_right, Contains-map, Contains-nil, Extract, Hashes, IsApart, IsStatusBatch, IsStrictlySortedBy-filter_map, Key, List, Option, Some, StatusRow, []}
use Rattle.dv_track.proofs.Vocabulary.{all_refs, all_up_to, ap, appended, arith, ascending-sorted_by, both_lists, code_of, delivers, delivers-from_Contains, digest_cmp, false, filter_map, filter_map_member, has_load, hashes_in, inl, inr, is_among, lists_of, made_of, map_member, member_after_sort}
use Rattle.dv_track.proofs.Vocabulary.{member_before_sort, member_of_filter_map, nat_list_cmp_total, newest_first, newest_rows, none_loaded, present_at, refl, same_answer, says_present, sorted_by, status_batch, status_change, status_cmp, status_delta, status_parent, status_place, status_row}
use Rattle.dv_track.proofs.Vocabulary.{status_stands, status_tied, subst, sym, tells, ℕ, ◌++◌, ◌∙◌, ◌∷◌, ◌≡◌}
use Rattle.dv_track.specs.Tracks.{parents_of}
use Rattle.dv_track.proofs.{Amongst.exact, Amongst.is_among-Decides, Following.change_parent, Presence.there_parent}

-- ---- rows of a table of extracts

module _ (hashes : Hashes) (source : List ℕ) where
  -- a row of a batch is of a list of one of the two extracts
  of_batch : (older : List Extract) (newest : Extract) (row : StatusRow) → Contains (status_batch hashes source older newest) row
      → (refs : List Key) × Contains (all_refs (newest_rows older) ++ all_refs newest.rows) refs × (status_row hashes source older newest refs ≡ Some row)
  of_batch older newest row has =
      filter_map_member (status_row hashes source older newest) (all_refs (newest_rows older) ++ all_refs newest.rows) row
      (member_before_sort status_cmp (filter_map (status_row hashes source older newest) (all_refs (newest_rows older) ++ all_refs newest.rows)) row has)

  -- a row of the table is of a list that the extracts deliver
  table_list : (extracts : List Extract) (row : StatusRow) → Contains (appended (status_batch hashes source) extracts) row → (refs : List Key) × Contains (lists_of extracts) refs × (row.parent ≡ hashes.hash refs)
  table_list [] row has = Contains-nil row has
  table_list (newest ∷ older) row has =
      elim (Contains-append_cases (appended (status_batch hashes source) older) (status_batch hashes source older newest) row has) [
        | inl before ↦ let (refs, member, is) = table_list older row before in (refs, Contains-append_right (all_refs newest.rows) (lists_of older) refs member, is)
        | inr batch ↦
            let (refs, member, gives) = of_batch older newest row batch in
            (refs, both_lists newest older refs member, status_parent hashes source older newest refs row gives)
      ]

  -- and has its extract's load date
  batch_load : (older : List Extract) (newest : Extract) (row : StatusRow) → Contains (status_batch hashes source older newest) row → row.load ≡ newest.load
  batch_load older newest row has =
      let (refs, member, gives) = of_batch older newest row has in
      let (code, found, made) = made_of _ (code_of older newest refs) row gives in
      sym (ap (λ (r : StatusRow). r.load) made)

-- ---- the newest extract

module _ (hashes : Hashes) (source : List ℕ) (older : List Extract) (newest : Extract) (order : AreNewestFirst (newest ∷ older)) (apart : IsApart hashes (lists_of (newest ∷ older))) where
  abbrev rows : List StatusRow
  rows = appended (status_batch hashes source) older

  abbrev refs_now : List (List Key)
  refs_now = all_refs newest.rows

  abbrev change : List ℕ → Option StatusRow
  change = status_change source rows newest.load (hashes_in hashes refs_now)

  abbrev digests : List (List ℕ)
  digests = parents_of rows ++ hashes_in hashes refs_now

  -- no row of the table has the new load date
  no_load : has_load status_place rows newest.load ≡ false
  no_load = none_loaded (λ (row : StatusRow). row.load) (status_batch hashes source) (batch_load hashes source) older newest order

  -- at the new load date the table says what the last extract before delivered
  was : (refs : List Key) → Contains (lists_of (newest ∷ older)) refs → present_at rows (hashes.hash refs) newest.load ≡ delivers (newest_rows older) refs
  was refs here =
      let first = newest_first (newest ∷ older) order in
      let own : (other : List Key) → Contains (lists_of older) other → hashes.hash other ≡ hashes.hash refs → other ≡ refs =
      λ other member same. apart other refs (Contains-append_right (all_refs newest.rows) (lists_of older) other member) here same in
      tells hashes source refs newest.load older first.1
      (λ a b a_in b_in. apart a b (Contains-append_right (all_refs newest.rows) (lists_of older) a a_in) (Contains-append_right (all_refs newest.rows) (lists_of older) b b_in))
      own
      ∙ ap (λ extracts. delivers (newest_rows extracts) refs) (all_up_to newest.load newest.load older first.0 (omega arith))

  -- and the lists have the hash keys of those that the new one delivers
  now : (refs : List Key) → Contains (lists_of (newest ∷ older)) refs → is_among (hashes_in hashes refs_now) (hashes.hash refs) ≡ delivers newest.rows refs
  now refs here =
      same_answer (is_among (hashes_in hashes refs_now) (hashes.hash refs)) (delivers newest.rows refs)
      (λ is.
      let (list, member, hashed) = map_member hashes.hash refs_now (hashes.hash refs) ((is_among-Decides (hashes_in hashes refs_now) (hashes.hash refs)).0 is) in
      delivers-from_Contains newest.rows refs (subst (Contains refs_now) (apart list refs (Contains-append_left (all_refs newest.rows) (lists_of older) list member) here hashed) member))
      (λ there. (is_among-Decides (hashes_in hashes refs_now) (hashes.hash refs)).1 (Contains-map hashes.hash refs_now refs (Contains-all_refs newest.rows refs there)))

  -- so a list's change is its row
  same_row : (refs : List Key) → Contains (lists_of (newest ∷ older)) refs → change (hashes.hash refs) ≡ status_row hashes source older newest refs
  same_row refs here = rw (was refs here, now refs here) refl

  -- each digest is the hash key of a list that was delivered
  digest_list : (digest : List ℕ) → Contains digests digest → (refs : List Key) × Contains (lists_of (newest ∷ older)) refs × (hashes.hash refs ≡ digest)
  digest_list digest has =
      elim (Contains-append_cases (parents_of rows) (hashes_in hashes refs_now) digest has) [
        | inl parent ↦
            let (row, member, is) = map_member (λ (row : StatusRow). row.parent) rows digest parent in
            let (refs, here, hashed) = table_list hashes source older row member in
            (refs, Contains-append_right (all_refs newest.rows) (lists_of older) refs here, sym hashed ∙ is)
        | inr hash ↦
            let (refs, member, is) = map_member hashes.hash refs_now digest hash in
            (refs, Contains-append_left (all_refs newest.rows) (lists_of older) refs member, is)
      ]

  -- and a list of one of the two newest extracts has its hash key among the digests
  has_digest : (refs : List Key) → Contains (all_refs (newest_rows older) ++ refs_now) refs → Contains digests (hashes.hash refs)
  has_digest refs has =
      elim (Contains-append_cases (all_refs (newest_rows older)) refs_now refs has) [
        | inl before ↦
            Contains-append_left (parents_of rows) (hashes_in hashes refs_now) (hashes.hash refs)
            (there_parent status_place says_present refl rows (hashes.hash refs) newest.load (was refs (both_lists newest older refs has) ∙ delivers-from_Contains (newest_rows older) refs before))
        | inr member ↦ Contains-append_right (parents_of rows) (hashes_in hashes refs_now) (hashes.hash refs) (Contains-map hashes.hash refs_now refs member)
      ]

  is_batch : IsStatusBatch hashes source older newest (filter_map change (sorted_by digest_cmp digests))
  is_batch = record {
    ascending = IsStrictlySortedBy-filter_map digest_cmp change (λ (row : StatusRow). row.parent) (change_parent source rows newest.load (hashes_in hashes refs_now)) (sorted_by digest_cmp digests)
        (ascending-sorted_by digest_cmp nat_list_cmp_total digests);
    only = λ row has.
        let (digest, member, gives) = filter_map_member change (sorted_by digest_cmp digests) row has in
        let (refs, here, is) = digest_list digest (member_before_sort digest_cmp digests digest member) in
        (refs, sym (same_row refs here) ∙ ap change is ∙ gives);
    each = λ refs row gives.
        let stands = status_stands hashes source older newest refs row gives in
        let sorted = member_after_sort digest_cmp digests (hashes.hash refs) (λ x member tied. exact x (hashes.hash refs) tied) (has_digest refs stands) in
        member_of_filter_map change (sorted_by digest_cmp digests) (hashes.hash refs) row sorted (same_row refs (both_lists newest older refs stands) ∙ gives);
  }

  pub delta_is_batch : status_delta hashes source rows newest.load refs_now ≡ status_batch hashes source older newest
  delta_is_batch =
      rw no_load
      ((status_tied hashes source older newest (λ a b a_in b_in. apart a b (both_lists newest older a a_in) (both_lists newest older b b_in)) (filter_map change (sorted_by digest_cmp digests))).1 is_batch)
