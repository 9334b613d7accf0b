-- Over the effectivity table of older extracts, what the newest one adds row by row is its batch.
use Rattle.dv_track.proofs.Vocabulary.{AreNewestFirst, Contains, Contains-all_refs, Contains-append_cases, Contains-append_left, Contains-append_right, Contains-map, Contains-nil, EffectRow, Extract, Hashes, IsApart, IsEffectBatch, IsStrictlySortedBy-filter_map, Key, List, Option, Some, []}
use Rattle.dv_track.proofs.Vocabulary.{all_refs, all_up_to, ap, appended, arith, ascending-sorted_by, both_lists, delivers, delivers-from_Contains, digest_cmp, effect_batch, effect_change, effect_cmp, effect_delta, effect_parent, effect_place, effect_row, effect_stands, effect_tied, effects_say}
use Rattle.dv_track.proofs.Vocabulary.{false, filter_map, filter_map_member, has_load, hashes_in, in_effect_since, inl, inr, is_among, is_some, lists_of, made_of, map_member, member_after_sort, member_before_sort, member_of_filter_map, nat_list_cmp_total, newest_first, newest_rows, none_loaded}
use Rattle.dv_track.proofs.Vocabulary.{refl, run_begin, same_answer, says_in_effect, sorted_by, span_between, subst, sym, true, ℕ, ◌++◌, ◌∙◌, ◌∷◌, ◌≡◌}
use Rattle.dv_track.specs.EffectRows.{parents_of}
use Rattle.dv_track.proofs.{Amongst.exact, Amongst.is_among-Decides, Presence.there_parent, EffectFollowing.change_parent}

-- a list that the newest extract delivers is in a run
goes_on : (all : List Extract) (refs : List Key) → delivers (newest_rows all) refs ≡ true → is_some (run_begin all refs) ≡ true
goes_on [] refs e = e
goes_on (newest ∷ older) refs e = rw e refl

-- ---- rows of a table of extracts

module _ (hashes : Hashes) (source : List ℕ) where
  -- a row of a batch is of a list of one of the two extracts
  of_batch : (older : List Extract) (newest : Extract) (row : EffectRow) → Contains (effect_batch hashes source older newest) row
      → (refs : List Key) × Contains (all_refs (newest_rows older) ++ all_refs newest.rows) refs × (effect_row hashes source older newest refs ≡ Some row)
  of_batch older newest row has =
      filter_map_member (effect_row hashes source older newest) (all_refs (newest_rows older) ++ all_refs newest.rows) row
      (member_before_sort effect_cmp (filter_map (effect_row hashes source older newest) (all_refs (newest_rows older) ++ all_refs newest.rows)) row has)

  -- a row of the table is of a list that the extracts deliver
  table_list : (extracts : List Extract) (row : EffectRow) → Contains (appended (effect_batch hashes source) extracts) row → (refs : List Key) × Contains (lists_of extracts) refs × (row.parent ≡ hashes.hash refs)
  table_list [] row has = Contains-nil row has
  table_list (newest ∷ older) row has =
      elim (Contains-append_cases (appended (effect_batch hashes source) older) (effect_batch hashes source older newest) row has) [
        | inl before ↦ let (refs, member, is) = table_list older row before in (refs, Contains-append_right (all_refs newest.rows) (lists_of older) refs member, is)
        | inr batch ↦
            let (refs, member, gives) = of_batch older newest row batch in
            (refs, both_lists newest older refs member, effect_parent hashes source older newest refs row gives)
      ]

  -- and has its extract's load date
  batch_load : (older : List Extract) (newest : Extract) (row : EffectRow) → Contains (effect_batch hashes source older newest) row → row.load ≡ newest.load
  batch_load older newest row has =
      let (refs, member, gives) = of_batch older newest row has in
      let (span, found, made) = made_of _ (span_between newest.load (run_begin older refs) (delivers newest.rows refs)) row gives in
      sym (ap (λ (r : EffectRow). r.load) made)

-- ---- the newest extract

module _ (hashes : Hashes) (source : List ℕ) (older : List Extract) (newest : Extract) (order : AreNewestFirst (newest ∷ older)) (apart : IsApart hashes (lists_of (newest ∷ older))) where
  abbrev rows : List EffectRow
  rows = appended (effect_batch hashes source) older

  abbrev refs_now : List (List Key)
  refs_now = all_refs newest.rows

  abbrev change : List ℕ → Option EffectRow
  change = effect_change source rows newest.load (hashes_in hashes refs_now)

  abbrev digests : List (List ℕ)
  digests = parents_of rows ++ hashes_in hashes refs_now

  -- no row of the table has the new load date
  no_load : has_load effect_place rows newest.load ≡ false
  no_load = none_loaded (λ (row : EffectRow). row.load) (effect_batch hashes source) (batch_load hashes source) older newest order

  -- at the new load date the table says in which run a list was
  was : (refs : List Key) → Contains (lists_of (newest ∷ older)) refs → in_effect_since rows (hashes.hash refs) newest.load ≡ run_begin older refs
  was refs here =
      let first = newest_first (newest ∷ older) order in
      let own : (other : List Key) → Contains (lists_of older) other → hashes.hash other ≡ hashes.hash refs → other ≡ refs =
      λ other member same. apart other refs (Contains-append_right (all_refs newest.rows) (lists_of older) other member) here same in
      effects_say hashes source refs newest.load older first.1
      (λ a b a_in b_in. apart a b (Contains-append_right (all_refs newest.rows) (lists_of older) a a_in) (Contains-append_right (all_refs newest.rows) (lists_of older) b b_in))
      own
      ∙ ap (λ extracts. run_begin extracts refs) (all_up_to newest.load newest.load older first.0 (omega arith))

  -- and the lists have the hash keys of those that the new one delivers
  now : (refs : List Key) → Contains (lists_of (newest ∷ older)) refs → is_among (hashes_in hashes refs_now) (hashes.hash refs) ≡ delivers newest.rows refs
  now refs here =
      same_answer (is_among (hashes_in hashes refs_now) (hashes.hash refs)) (delivers newest.rows refs)
      (λ is.
      let (list, member, hashed) = map_member hashes.hash refs_now (hashes.hash refs) ((is_among-Decides (hashes_in hashes refs_now) (hashes.hash refs)).0 is) in
      delivers-from_Contains newest.rows refs (subst (Contains refs_now) (apart list refs (Contains-append_left (all_refs newest.rows) (lists_of older) list member) here hashed) member))
      (λ there. (is_among-Decides (hashes_in hashes refs_now) (hashes.hash refs)).1 (Contains-map hashes.hash refs_now refs (Contains-all_refs newest.rows refs there)))

  -- so a list's change is its row
  same_row : (refs : List Key) → Contains (lists_of (newest ∷ older)) refs → change (hashes.hash refs) ≡ effect_row hashes source older newest refs
  same_row refs here = rw (was refs here, now refs here) refl

  -- each digest is the hash key of a list that was delivered
  digest_list : (digest : List ℕ) → Contains digests digest → (refs : List Key) × Contains (lists_of (newest ∷ older)) refs × (hashes.hash refs ≡ digest)
  digest_list digest has =
      elim (Contains-append_cases (parents_of rows) (hashes_in hashes refs_now) digest has) [
        | inl parent ↦
            let (row, member, is) = map_member (λ (row : EffectRow). row.parent) rows digest parent in
            let (refs, here, hashed) = table_list hashes source older row member in
            (refs, Contains-append_right (all_refs newest.rows) (lists_of older) refs here, sym hashed ∙ is)
        | inr hash ↦
            let (refs, member, is) = map_member hashes.hash refs_now digest hash in
            (refs, Contains-append_left (all_refs newest.rows) (lists_of older) refs member, is)
      ]

  -- and a list of one of the two newest extracts has its hash key among the digests
  has_digest : (refs : List Key) → Contains (all_refs (newest_rows older) ++ refs_now) refs → Contains digests (hashes.hash refs)
  has_digest refs has =
      elim (Contains-append_cases (all_refs (newest_rows older)) refs_now refs has) [
        | inl before ↦
            Contains-append_left (parents_of rows) (hashes_in hashes refs_now) (hashes.hash refs)
            (there_parent effect_place says_in_effect refl rows (hashes.hash refs) newest.load (ap is_some (was refs (both_lists newest older refs has)) ∙ goes_on older refs (delivers-from_Contains (newest_rows older) refs before)))
        | inr member ↦ Contains-append_right (parents_of rows) (hashes_in hashes refs_now) (hashes.hash refs) (Contains-map hashes.hash refs_now refs member)
      ]

  is_batch : IsEffectBatch hashes source older newest (filter_map change (sorted_by digest_cmp digests))
  is_batch = record {
    ascending = IsStrictlySortedBy-filter_map digest_cmp change (λ (row : EffectRow). row.parent) (change_parent source rows newest.load (hashes_in hashes refs_now)) (sorted_by digest_cmp digests)
        (ascending-sorted_by digest_cmp nat_list_cmp_total digests);
    only = λ row has.
        let (digest, member, gives) = filter_map_member change (sorted_by digest_cmp digests) row has in
        let (refs, here, is) = digest_list digest (member_before_sort digest_cmp digests digest member) in
        (refs, sym (same_row refs here) ∙ ap change is ∙ gives);
    each = λ refs row gives.
        let stands = effect_stands hashes source older newest refs row gives in
        let sorted = member_after_sort digest_cmp digests (hashes.hash refs) (λ x member tied. exact x (hashes.hash refs) tied) (has_digest refs stands) in
        member_of_filter_map change (sorted_by digest_cmp digests) (hashes.hash refs) row sorted (same_row refs (both_lists newest older refs stands) ∙ gives);
  }

  pub delta_is_batch : effect_delta hashes source rows newest.load refs_now ≡ effect_batch hashes source older newest
  delta_is_batch =
      rw no_load
      ((effect_tied hashes source older newest (λ a b a_in b_in. apart a b (both_lists newest older a a_in) (both_lists newest older b b_in)) (filter_map change (sorted_by digest_cmp digests))).1 is_batch)
