-- What an extract adds, by the parents that are present and the extract's keys alone.
use Rattle.dv_track.proofs.Vocabulary.{Bool, Code, IsStrictlySortedBy, IsStrictlySortedBy-filter, List, None, Option, Some, StatusRow, [], ap, ascending-sorted_by, bytes_eq, change_between, changes_between, code_between, digest_cmp, false, filter, filter_map, is_among, is_some, list_any-append}
use Rattle.dv_track.proofs.Vocabulary.{nat_list_cmp_total, option_map, or-true, present_at, present_parents, refl, says_present, sorted_by, status_change, status_changes, status_place, sym, true, ℕ, ◌&&◌, ◌++◌, ◌||◌, ◌∙◌, ◌∷◌, ◌≡◌}
use Rattle.dv_track.specs.Tracks.{parents_of}
use Rattle.dv_track.proofs.{Amongst.among-filter, Amongst.among_sorted, Amongst.is_among-Decides, Amongst.same_among, Presence.among_there_at, Presence.there_parent}

-- items without a value may be left out
pub filter_map_some : {X Y : Type 0} (h : X → Option Y) (xs : List X) → filter_map h (filter (λ x. is_some (h x)) xs) ≡ filter_map h xs
filter_map_some h [] = refl
filter_map_some h (x ∷ xs) = by (h x) refl (filter_map_some h xs)
  where
    by : (o : Option _) → h x ≡ o → filter_map h (filter (λ x. is_some (h x)) xs) ≡ filter_map h xs → filter_map h (filter (λ x. is_some (h x)) (x ∷ xs)) ≡ filter_map h (x ∷ xs)
    by None e rest = rw e rest
    by (Some y) e rest = rw (e, e) (ap (λ l. y ∷ l) rest)

module _ (source : List ℕ) (rows : List StatusRow) (load : ℕ) (now : List (List ℕ)) where
  abbrev was : List (List ℕ)
  was = present_parents rows load

  abbrev sorted : List (List ℕ)
  sorted = sorted_by digest_cmp now

  abbrev change : List ℕ → Option StatusRow
  change = status_change source rows load now

  abbrev all : List (List ℕ)
  all = parents_of rows ++ now

  same_change : (digest : List ℕ) → change_between source load was sorted digest ≡ change digest
  same_change digest = rw (among_there_at status_place says_present refl rows load digest, among_sorted now digest) refl

  abbrev differs : List ℕ → Bool
  differs digest = is_some (change digest)

  -- one that appeared or vanished was present or is in the extract, and where it was present it is in the table
  one_of_both : {Y : Type 0} (f : Code → Y) (was now in_table : Bool) → (was ≡ true → in_table ≡ true)
      → (is_some (option_map f (code_between was now)) && (was || now)) ≡ (is_some (option_map f (code_between was now)) && (in_table || now))
  one_of_both f true true in_table known = refl
  one_of_both f false false in_table known = refl
  one_of_both f false true in_table known = rw (or-true in_table) refl
  one_of_both f true false in_table known = rw (known refl) refl

  among_differing : (xs ys : List (List ℕ)) (digest : List ℕ) → is_among (filter differs (sorted_by digest_cmp (xs ++ ys))) digest ≡ (differs digest && (is_among xs digest || is_among ys digest))
  among_differing xs ys digest =
      among-filter differs (sorted_by digest_cmp (xs ++ ys)) digest ∙ ap (λ there. differs digest && there) (among_sorted (xs ++ ys) digest ∙ list_any-append (λ other. bytes_eq other digest) xs ys)

  same_digest : (digest : List ℕ) → is_among (filter differs (sorted_by digest_cmp (was ++ sorted))) digest ≡ is_among (filter differs (sorted_by digest_cmp all)) digest
  same_digest digest =
      among_differing was sorted digest
      ∙ rw (among_there_at status_place says_present refl rows load digest, among_sorted now digest)
      (one_of_both _ (present_at rows digest load) (is_among now digest) (is_among (parents_of rows) digest) (λ e. (is_among-Decides (parents_of rows) digest).1 (there_parent status_place says_present refl rows digest load e)))
      ∙ sym (among_differing (parents_of rows) now digest)

  ascends : (digests : List (List ℕ)) → IsStrictlySortedBy digest_cmp (filter differs (sorted_by digest_cmp digests))
  ascends digests = IsStrictlySortedBy-filter digest_cmp differs (sorted_by digest_cmp digests) (ascending-sorted_by digest_cmp nat_list_cmp_total digests)

  same_digests : filter differs (sorted_by digest_cmp (was ++ sorted)) ≡ filter differs (sorted_by digest_cmp all)
  same_digests = same_among (filter differs (sorted_by digest_cmp (was ++ sorted))) (filter differs (sorted_by digest_cmp all)) (ascends (was ++ sorted)) (ascends all) same_digest

  pub all_changes : changes_between source load was sorted ≡ status_changes source rows load now
  all_changes =
      ap (λ h. filter_map h (sorted_by digest_cmp (was ++ sorted))) (λ i digest. same_change digest i)
      ∙ sym (filter_map_some change (sorted_by digest_cmp (was ++ sorted)))
      ∙ ap (filter_map change) same_digests
      ∙ filter_map_some change (sorted_by digest_cmp all)
