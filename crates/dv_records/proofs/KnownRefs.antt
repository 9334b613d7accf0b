-- A reference list that windows bring is found in its table by its hash key.
use Rattle.dv_records.proofs.Vocabulary.{Contains, Contains-cons_here, Contains-cons_there, Contains-flat_map, Delivery, Hashes, Hub, HubRow, IsApart, Key, Link, LinkRow, List, Mapping, None, Option, Parent, Some, Window, [], all_pass_replicate, and_parts, ap, appended, bytes_eq}
use Rattle.dv_records.proofs.Vocabulary.{bytes_eq-Decides, each_hash, eqb-true, false, false≢true, filtered_members, finds, fits_hub, flat_map, flat_map_member, found_member, hashed_refs, hub_batch, hub_row_by, is_known, is_missing, is_offered, length, link_batch, link_row_by, list_all}
use Rattle.dv_records.proofs.Vocabulary.{map_member, missing_key, missing_refs, nil_from_length, not, not-true, offered_refs, offers, offers_of, parts_of, refl, replicate, reverse, reverse_member, rules, slice_get, some_passes, some_passes_at, sym, true, ℕ, ◌==◌, ◌∙◌, ◌∷◌, ◌≡◌}
use Rattle.dv_records.proofs.{Delivered.is_offered-member, Delivered.offered_member, HubTables.table_has as hub_has, HubTables.table_row as hub_row_of, LinkTables.table_has as link_has, LinkTables.table_row as link_row_of}

-- ---- what is missing

all_empty : (parts : List (List ℕ)) → list_all (λ part. length part == 0) parts ≡ true → parts ≡ replicate (length parts) []
all_empty [] e = refl
all_empty (part ∷ parts) e =
    let (first, rest) = and_parts (length part == 0) (list_all (λ part. length part == 0) parts) e in
    let empty : part ≡ [] = nil_from_length part (eqb-true (length part) 0 first) in
    let later = all_empty parts rest in
    λ i. empty i ∷ later i

-- a key that fits its hub and is missing is the hub's missing key
pub the_missing : (mapping : Mapping) (hub : ℕ) (key : Key) → fits_hub mapping hub key ≡ true → is_missing key ≡ true → key ≡ missing_key mapping hub
the_missing mapping hub key fits missing = search (rules, and_parts, all_empty, eqb-true)

-- a list that windows bring isn't missing as a whole
pub known_there : (mapping : Mapping) (parent : Parent) (windows : List Window) (refs : List Key) → is_known mapping parent windows refs ≡ true → list_all is_missing refs ≡ false
known_there mapping parent windows refs known =
    let (window, member, offered) = some_passes (λ window. is_offered mapping parent window refs) windows known in
    let (offer, has, same) = map_member (λ (offer : Delivery). offer.refs) (offers mapping parent window) refs (offered_member mapping parent window refs offered) in
    let (within, kept) = (filtered_members (λ (offer : Delivery). not (list_all is_missing offer.refs)) (flat_map (offers_of mapping parent) window.extracts) offer).0 has in
    ap (list_all is_missing) (sym same) ∙ not-true (list_all is_missing offer.refs) kept

-- ---- hash keys of their own

module _ (mapping : Mapping) (hashes : Hashes) (sealed : List Window) (parent : Parent) (apart : IsApart hashes (hashed_refs mapping sealed parent)) where
  pub known_hashed : (refs : List Key) → is_known mapping parent (reverse sealed) refs ≡ true → Contains (hashed_refs mapping sealed parent) refs
  known_hashed refs known =
      let (window, member, offered) = some_passes (λ window. is_offered mapping parent window refs) (reverse sealed) known in
      Contains-cons_there (missing_refs mapping parent) (flat_map (offered_refs mapping parent) sealed) refs
      (Contains-flat_map (offered_refs mapping parent) sealed window refs ((reverse_member sealed window).0 member) (offered_member mapping parent window refs offered))

  pub known_apart : (a b : List Key) → is_known mapping parent (reverse sealed) a ≡ true → is_known mapping parent (reverse sealed) b ≡ true → hashes.hash a ≡ hashes.hash b → a ≡ b
  known_apart a b a_in b_in = apart a b (known_hashed a a_in) (known_hashed b b_in)

  offered_known : (refs : List Key) → Contains (flat_map (offered_refs mapping parent) (reverse sealed)) refs → is_known mapping parent (reverse sealed) refs ≡ true
  offered_known refs has =
      let (window, member, offered) = flat_map_member (offered_refs mapping parent) (reverse sealed) refs has in
      some_passes_at (λ window. is_offered mapping parent window refs) (reverse sealed) window member (is_offered-member mapping parent window refs offered)

  pub offers_apart : IsApart hashes (flat_map (offered_refs mapping parent) (reverse sealed))
  offers_apart a b a_in b_in = known_apart a b (offered_known a a_in) (offered_known b b_in)

-- ---- rows by hash keys

module _ (mapping : Mapping) (hashes : Hashes) (sealed : List Window) (hub : ℕ) (apart : IsApart hashes (hashed_refs mapping sealed (Hub hub))) where
  abbrev hubs : List HubRow
  hubs = appended (hub_batch mapping hashes hub) (reverse sealed)

  -- a row that is found by a hash key is of a key that is known, with this hash key
  found_hub : (digest : List ℕ) (row : HubRow) → hub_row_by hubs digest ≡ Some row → (is_known mapping (Hub hub) (reverse sealed) (row.key ∷ []) ≡ true) × (hashes.hash (row.key ∷ []) ≡ digest)
  found_hub digest row found =
      let (member, same) = found_member (λ (row : HubRow). bytes_eq row.digest digest) hubs row found in
      let (known, hashed) = hub_row_of mapping hub hashes (reverse sealed) row member in
      (known, sym hashed ∙ (bytes_eq-Decides row.digest digest).0 same)

  -- the row of a key that is known
  pub key_found : (key : Key) → is_known mapping (Hub hub) (reverse sealed) (key ∷ []) ≡ true → (row : HubRow) × (hub_row_by hubs (hashes.hash (key ∷ [])) ≡ Some row) × (row.key ≡ key)
  key_found key known =
      let (first, member, of_key, digest) = hub_has mapping hub hashes (reverse sealed) (offers_apart mapping hashes sealed (Hub hub) apart) key known in
      let (row, found) = finds (λ (row : HubRow). bytes_eq row.digest (hashes.hash (key ∷ []))) hubs first member ((bytes_eq-Decides first.digest (hashes.hash (key ∷ []))).1 digest) in
      let (row_known, hashed) = found_hub (hashes.hash (key ∷ [])) row found in
      let same : row.key ≡ key = cc (known_apart mapping hashes sealed (Hub hub) apart (row.key ∷ []) (key ∷ []) row_known known hashed) in
      (row, found, same)

  -- the missing key has none
  pub missing_unfound : hub_row_by hubs (hashes.hash (missing_key mapping hub ∷ [])) ≡ None
  missing_unfound = by (hub_row_by hubs (hashes.hash (missing_key mapping hub ∷ []))) refl
    where
      by : (o : Option HubRow) → hub_row_by hubs (hashes.hash (missing_key mapping hub ∷ [])) ≡ o → hub_row_by hubs (hashes.hash (missing_key mapping hub ∷ [])) ≡ None
      by None e = e
      by (Some row) e =
          let (known, hashed) = found_hub (hashes.hash (missing_key mapping hub ∷ [])) row e in
          let same : row.key ∷ [] ≡ missing_key mapping hub ∷ [] =
          apart (row.key ∷ []) (missing_key mapping hub ∷ []) (known_hashed mapping hashes sealed (Hub hub) apart (row.key ∷ []) known)
          (Contains-cons_here (missing_refs mapping (Hub hub)) _) hashed in
          let there = known_there mapping (Hub hub) (reverse sealed) (row.key ∷ []) known in
          let gone : list_all is_missing (missing_key mapping hub ∷ []) ≡ true = rw (all_pass_replicate (λ (part : List ℕ). length part == 0) (parts_of (slice_get mapping.hubs hub)) [] refl) refl in
          absurd (false≢true (sym there ∙ ap (list_all is_missing) same ∙ gone))

module _ (mapping : Mapping) (hashes : Hashes) (sealed : List Window) (link : ℕ) (apart : IsApart hashes (hashed_refs mapping sealed (Link link))) where
  abbrev links : List LinkRow
  links = appended (link_batch mapping hashes link) (reverse sealed)

  -- the row of a list that is known
  pub list_found : (refs : List Key) → is_known mapping (Link link) (reverse sealed) refs ≡ true → (row : LinkRow) × (link_row_by links (hashes.hash refs) ≡ Some row) × (row.hubs ≡ each_hash hashes refs)
  list_found refs known =
      let (first, member, digest, of_list) = link_has mapping link hashes (reverse sealed) (offers_apart mapping hashes sealed (Link link) apart) refs known in
      let (row, found) = finds (λ (row : LinkRow). bytes_eq row.digest (hashes.hash refs)) links first member ((bytes_eq-Decides first.digest (hashes.hash refs)).1 digest) in
      let (in_links, same) = found_member (λ (row : LinkRow). bytes_eq row.digest (hashes.hash refs)) links row found in
      let (other, other_known, hashed, hubs) = link_row_of mapping link hashes (reverse sealed) row in_links in
      let one : other ≡ refs = known_apart mapping hashes sealed (Link link) apart other refs other_known known (sym hashed ∙ (bytes_eq-Decides row.digest (hashes.hash refs)).0 same) in
      (row, found, hubs ∙ ap (each_hash hashes) one)
