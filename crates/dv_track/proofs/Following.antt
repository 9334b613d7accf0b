-- What an extract adds to a table stands behind the table's rows.
use Rattle.dv_track.proofs.Vocabulary.{All, Contains, Hashes, IsStrictlySortedBy, IsStrictlySortedBy-filter_map, List, NRow, Option, Some, StatusRow, all_refs, ap, ascending-sorted_by, code_between, delta_follows, delta_stamped, digest_cmp, filter_map, filter_map_member, given, is_among, made_of}
use Rattle.dv_track.proofs.Vocabulary.{map, map-map, nat_list_cmp_total, none_later, present_at, refl, sorted_by, status_change, status_cmp, status_delta, status_order, status_place, sym, true, ℕ, ◌++◌, ◌∙◌, ◌≡◌}
use Rattle.dv_track.specs.Tracks.{keys_delta, parents_of}

module _ (source : List ℕ) (rows : List StatusRow) (load : ℕ) (keys : List (List ℕ)) where
  abbrev change : List ℕ → Option StatusRow
  change = status_change source rows load keys

  change_load : (digest : List ℕ) (row : StatusRow) → change digest ≡ Some row → row.load ≡ load
  change_load digest row e = let (code, found, made) = made_of _ (code_between (present_at rows digest load) (is_among keys digest)) row e in sym (ap (λ (r : StatusRow). r.load) made)

  pub change_parent : (digest : List ℕ) (row : StatusRow) → change digest ≡ Some row → row.parent ≡ digest
  change_parent digest row e = given _ (λ (row : StatusRow). row.parent) digest (λ code. refl) (code_between (present_at rows digest load) (is_among keys digest)) row e

  abbrev digests : List (List ℕ)
  digests = sorted_by digest_cmp (parents_of rows ++ keys)

  delta_load : (row : StatusRow) → Contains (filter_map change digests) row → row.load ≡ load
  delta_load row has = let (digest, member, gives) = filter_map_member change digests row has in change_load digest row gives

  -- all rows of the delta have the load date
  pub all_have : All (λ row. row.load ≡ load) (keys_delta source rows load keys)
  all_have = delta_stamped (λ (row : StatusRow). row.load) status_cmp load rows (filter_map change digests) delta_load

  pub follows : IsStrictlySortedBy status_order rows → none_later status_place rows load ≡ true → IsStrictlySortedBy status_order (rows ++ keys_delta source rows load keys)
  follows =
      delta_follows (λ (row : StatusRow). row.load) status_cmp load rows (filter_map change digests) delta_load
      (IsStrictlySortedBy-filter_map digest_cmp change (λ (row : StatusRow). row.parent) change_parent digests (ascending-sorted_by digest_cmp nat_list_cmp_total (parents_of rows ++ keys)))

-- where the keys are the hash keys of an extract's reference lists, they tell what the lists add
pub keys_tell : (hashes : Hashes) (source : List ℕ) (rows : List StatusRow) (load : ℕ) (keys : List (List ℕ)) (staged : List NRow) → keys ≡ map (λ row. hashes.hash row.refs) staged
    → keys_delta source rows load keys ≡ status_delta hashes source rows load (all_refs staged)
keys_tell hashes source rows load keys staged are = ap (keys_delta source rows load) (are ∙ sym (map-map hashes.hash (λ (row : NRow). row.refs) staged))
