-- What an extract adds to an effectivity table, by the parents that are in effect and the extract's keys alone.
use Rattle.dv_track.proofs.Vocabulary.{Bool, EffectRow, IsStrictlySortedBy-filter, List, None, Option, Some, Span, ap, ascending-sorted_by, bytes_eq, digest_cmp, effect_between, effect_change, effect_changes, effect_place, effect_turn, effect_turns, false, filter, filter_map, in_effect_since}
use Rattle.dv_track.proofs.Vocabulary.{is_among, is_some, list_any-append, nat_list_cmp_total, option_map, or-true, parents_there, refl, says_in_effect, sorted_by, span_between, sym, true, ℕ, ◌&&◌, ◌++◌, ◌||◌, ◌∙◌, ◌≡◌}
use Rattle.dv_track.specs.EffectRows.{parents_of}
use Rattle.dv_track.proofs.{Amongst.among-filter, Amongst.among_sorted, Amongst.is_among-Decides, Amongst.same_among, Changed.filter_map_some, Presence.among_there_at, Presence.there_parent}

module _ (source : List ℕ) (rows : List EffectRow) (load : ℕ) (now : List (List ℕ)) where
  abbrev change : List ℕ → Option EffectRow
  change = effect_change source rows load now

  abbrev differs : List ℕ → Bool
  differs digest = is_some (change digest)

  abbrev sorted : List (List ℕ)
  sorted = sorted_by digest_cmp now

  abbrev was : List (List ℕ)
  was = parents_there effect_place says_in_effect rows load

  abbrev some : List (List ℕ)
  some = was ++ sorted

  abbrev all : List (List ℕ)
  all = parents_of rows ++ now

  -- one with which a run begins or ends is in effect or in the extract, and where it is in effect it is in the table
  one_of_both : {Y : Type 0} (f : Span → Y) (since : Option ℕ) (now in_table : Bool) → (is_some since ≡ true → in_table ≡ true)
      → (is_some (option_map f (span_between load since now)) && (is_some since || now)) ≡ (is_some (option_map f (span_between load since now)) && (in_table || now))
  one_of_both f None false in_table known = refl
  one_of_both f None true in_table known = rw (or-true in_table) refl
  one_of_both f (Some begin) true in_table known = refl
  one_of_both f (Some begin) false in_table known = rw (known refl) refl

  among_differing : (xs ys : List (List ℕ)) (digest : List ℕ) → is_among (filter differs (sorted_by digest_cmp (xs ++ ys))) digest ≡ (differs digest && (is_among xs digest || is_among ys digest))
  among_differing xs ys digest =
      among-filter differs (sorted_by digest_cmp (xs ++ ys)) digest ∙ ap (λ there. differs digest && there) (among_sorted (xs ++ ys) digest ∙ list_any-append (λ other. bytes_eq other digest) xs ys)

  same_digest : (digest : List ℕ) → is_among (filter differs (sorted_by digest_cmp some)) digest ≡ is_among (filter differs (sorted_by digest_cmp all)) digest
  same_digest digest =
      among_differing was sorted digest
      ∙ rw (among_there_at effect_place says_in_effect refl rows load digest, among_sorted now digest)
      (one_of_both _ (in_effect_since rows digest load) (is_among now digest) (is_among (parents_of rows) digest) (λ e. (is_among-Decides (parents_of rows) digest).1 (there_parent effect_place says_in_effect refl rows digest load e)))
      ∙ sym (among_differing (parents_of rows) now digest)

  same_digests : filter differs (sorted_by digest_cmp some) ≡ filter differs (sorted_by digest_cmp all)
  same_digests =
      same_among (filter differs (sorted_by digest_cmp some)) (filter differs (sorted_by digest_cmp all))
      (IsStrictlySortedBy-filter digest_cmp differs (sorted_by digest_cmp some) (ascending-sorted_by digest_cmp nat_list_cmp_total some))
      (IsStrictlySortedBy-filter digest_cmp differs (sorted_by digest_cmp all) (ascending-sorted_by digest_cmp nat_list_cmp_total all))
      same_digest

  by_lists : (digest : List ℕ) (since : Option ℕ) (now : Bool) → effect_turn source load digest since (is_some since) now ≡ effect_between source load digest since now
  by_lists digest None true = refl
  by_lists digest None false = refl
  by_lists digest (Some begin) true = refl
  by_lists digest (Some begin) false = refl

  same_turn : (digest : List ℕ) → effect_turn source load digest (in_effect_since rows digest load) (is_among was digest) (is_among sorted digest) ≡ change digest
  same_turn digest = rw (among_there_at effect_place says_in_effect refl rows load digest, among_sorted now digest) (by_lists digest (in_effect_since rows digest load) (is_among now digest))

  pub all_changes : effect_turns source rows load was sorted ≡ effect_changes source rows load now
  all_changes =
      ap (λ h. filter_map h (sorted_by digest_cmp some)) (λ i digest. same_turn digest i)
      ∙ sym (filter_map_some change (sorted_by digest_cmp some))
      ∙ ap (filter_map change) same_digests
      ∙ filter_map_some change (sorted_by digest_cmp all)
