-- What an extract adds to an effectivity table stands behind the table's rows.
use Rattle.dv_track.proofs.Vocabulary.{All, Contains, EffectRow, Hashes, IsStrictlySortedBy, IsStrictlySortedBy-filter_map, List, NRow, Option, Some, all_refs, ap, ascending-sorted_by, delta_follows, delta_stamped, digest_cmp, effect_change, effect_cmp, effect_delta, effect_order}
use Rattle.dv_track.proofs.Vocabulary.{effect_place, filter_map, filter_map_member, given, in_effect_since, is_among, keys_delta, made_of, map, map-map, nat_list_cmp_total, none_later, refl, sorted_by, span_between, sym, true, ℕ, ◌++◌, ◌∙◌, ◌≡◌}
use Rattle.dv_track.specs.EffectRows.{parents_of}

module _ (source : List ℕ) (rows : List EffectRow) (load : ℕ) (keys : List (List ℕ)) where
  abbrev change : List ℕ → Option EffectRow
  change = effect_change source rows load keys

  change_load : (digest : List ℕ) (row : EffectRow) → change digest ≡ Some row → row.load ≡ load
  change_load digest row e = let (span, found, made) = made_of _ (span_between load (in_effect_since rows digest load) (is_among keys digest)) row e in sym (ap (λ (r : EffectRow). r.load) made)

  pub change_parent : (digest : List ℕ) (row : EffectRow) → change digest ≡ Some row → row.parent ≡ digest
  change_parent digest row e = given _ (λ (row : EffectRow). row.parent) digest (λ span. refl) (span_between load (in_effect_since rows digest load) (is_among keys digest)) row e

  abbrev digests : List (List ℕ)
  digests = sorted_by digest_cmp (parents_of rows ++ keys)

  delta_load : (row : EffectRow) → Contains (filter_map change digests) row → row.load ≡ load
  delta_load row has = let (digest, member, gives) = filter_map_member change digests row has in change_load digest row gives

  -- all rows of the delta have the load date
  pub all_have : All (λ row. row.load ≡ load) (keys_delta source rows load keys)
  all_have = delta_stamped (λ (row : EffectRow). row.load) effect_cmp load rows (filter_map change digests) delta_load

  pub follows : IsStrictlySortedBy effect_order rows → none_later effect_place rows load ≡ true → IsStrictlySortedBy effect_order (rows ++ keys_delta source rows load keys)
  follows =
      delta_follows (λ (row : EffectRow). row.load) effect_cmp load rows (filter_map change digests) delta_load
      (IsStrictlySortedBy-filter_map digest_cmp change (λ (row : EffectRow). row.parent) change_parent digests (ascending-sorted_by digest_cmp nat_list_cmp_total (parents_of rows ++ keys)))

-- where the keys are the hash keys of an extract's reference lists, they tell what the lists add
pub keys_tell : (hashes : Hashes) (source : List ℕ) (rows : List EffectRow) (load : ℕ) (keys : List (List ℕ)) (staged : List NRow) → keys ≡ map (λ row. hashes.hash row.refs) staged
    → keys_delta source rows load keys ≡ effect_delta hashes source rows load (all_refs staged)
keys_tell hashes source rows load keys staged are = ap (keys_delta source rows load) (are ∙ sym (map-map hashes.hash (λ (row : NRow). row.refs) staged))
