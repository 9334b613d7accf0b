-- The references of a valid feed's rows are read back from the tables of its hub or its link.
use Rattle.dv_records.proofs.Vocabulary.{Bool, Contains, Contains-cons_here, Contains-cons_there, Contains-nil, Extract, FeedDef, Hashes, Hub, HubRow, IsApart, Key, Link, LinkDef, LinkRow, List, Mapping, NRow, None, Option, Parent, Some, TableRows, Window, [], and_parts, ap, appended}
use Rattle.dv_records.proofs.Vocabulary.{are_windows_valid, cond, each_hash, false, fit_hubs, fits_hub, hashed_refs, history, hub_batch, hub_row_by, hub_rows_in, is_declared, is_hub, is_known, is_missing, is_valid, key_read, keys_at, keys_read, length, link_hubs, link_row_by, link_rows_in}
use Rattle.dv_records.proofs.Vocabulary.{ltb-true, missing_key, option_map, option_map_or, parent_hubs, passes_at, refl, refs_read, reverse, slice_get, subst, suc, sym, true, valid_feed, valid_link, vault, ℕ, ◌<◌, ◌==◌, ◌∙◌, ◌∷◌, ◌≡◌}
use Rattle.dv_records.proofs.{KnownLists.key_at_first, KnownLists.key_known, KnownLists.row_known, KnownRefs.key_found, KnownRefs.list_found, KnownRefs.missing_unfound, KnownRefs.the_missing, ValidWindows.hub_apart, ValidWindows.link_apart, VaultRows.vault_hub, VaultRows.vault_link}
use Rattle.dv_records.proofs.{WindowRows.HasForm, WindowRows.one_key}

-- ---- hubs and references

-- references are as many as the hubs that they fit
pub as_many : (mapping : Mapping) (hubs : List ℕ) (refs : List Key) → fit_hubs mapping hubs refs ≡ true → length refs ≡ length hubs
as_many mapping [] [] fits = refl
as_many mapping [] (key ∷ refs) fits = let no : false ≡ true = fits in cc
as_many mapping (hub ∷ hubs) [] fits = let no : false ≡ true = fits in cc
as_many mapping (hub ∷ hubs) (key ∷ refs) fits = ap suc (as_many mapping hubs refs (and_parts (fits_hub mapping hub key) (fit_hubs mapping hubs refs) fits).1)

-- the keys of a hub among fewer references are among more
pub key_at_later : (hub first : ℕ) (hubs : List ℕ) (key other : Key) (refs : List Key) → Contains (keys_at hub hubs refs) key → Contains (keys_at hub (first ∷ hubs) (other ∷ refs)) key
key_at_later hub first hubs key other refs has = by (first == hub)
  where
    by : (b : Bool) → Contains (cond b (other ∷ keys_at hub hubs refs) (keys_at hub hubs refs)) key
    by true = Contains-cons_there other (keys_at hub hubs refs) key has
    by false = has

-- the keys are read back one by one
each_read : (mapping : Mapping) (hashes : Hashes) (tables : List TableRows) (hubs : List ℕ) (refs : List Key) → fit_hubs mapping hubs refs ≡ true
    → ((hub : ℕ) (key : Key) → Contains hubs hub → fits_hub mapping hub key ≡ true → Contains (keys_at hub hubs refs) key → key_read mapping tables hub (hashes.hash (key ∷ [])) ≡ key)
    → keys_read mapping tables hubs (each_hash hashes refs) ≡ refs
each_read mapping hashes tables [] [] fits reads = refl
each_read mapping hashes tables [] (key ∷ refs) fits reads = let no : false ≡ true = fits in cc
each_read mapping hashes tables (hub ∷ hubs) [] fits reads = let no : false ≡ true = fits in cc
each_read mapping hashes tables (hub ∷ hubs) (key ∷ refs) fits reads =
    let parts = and_parts (fits_hub mapping hub key) (fit_hubs mapping hubs refs) fits in
    let first = reads hub key (Contains-cons_here hub hubs) parts.0 (key_at_first hub hubs key refs) in
    let rest = each_read mapping hashes tables hubs refs parts.1
    (λ h k in_hubs fit has. reads h k (Contains-cons_there hub hubs h in_hubs) fit (key_at_later h hub hubs k key refs has)) in
    λ i. first i ∷ rest i

-- ---- the references of a feed's row

module _ (mapping : Mapping) (hashes : Hashes) (sealed : List Window) (valid : is_valid mapping ≡ true) (windows_valid : are_windows_valid mapping hashes sealed ≡ true) (feed : ℕ)
    (definition : FeedDef) (at : slice_get mapping.feeds feed ≡ Some definition) where
  declared : is_declared mapping definition.parent ≡ true
  declared = (valid_feed mapping valid feed definition at).declared

  hub_under : (hub : ℕ) → definition.parent ≡ Hub hub → hub < length mapping.hubs
  hub_under hub parent = ltb-true hub (length mapping.hubs) (subst (λ (p : Parent). is_declared mapping p ≡ true) parent declared)

  link_under : (link : ℕ) → definition.parent ≡ Link link → link < length mapping.links
  link_under link parent = ltb-true link (length mapping.links) (subst (λ (p : Parent). is_declared mapping p ≡ true) parent declared)

  hubs_under : (link hub : ℕ) → Contains (parent_hubs mapping (Link link)) hub → hub < length mapping.hubs
  hubs_under link hub has = ltb-true hub (length mapping.hubs) (by (slice_get mapping.links link) refl has)
    where
      by : (o : Option LinkDef) → slice_get mapping.links link ≡ o → Contains (link_hubs o) hub → is_hub mapping hub ≡ true
      by None e has = Contains-nil hub has
      by (Some found) e has = passes_at (is_hub mapping) found.hubs hub (valid_link mapping valid link found e).in_range has

  -- no two lists of the feed's hub or link have one hash key
  pub parent_apart : IsApart hashes (hashed_refs mapping sealed definition.parent)
  parent_apart = by definition.parent refl
    where
      by : (parent : Parent) → definition.parent ≡ parent → IsApart hashes (hashed_refs mapping sealed definition.parent)
      by (Hub hub) parent = subst (λ (p : Parent). IsApart hashes (hashed_refs mapping sealed p)) (sym parent) (hub_apart mapping hashes sealed windows_valid hub (hub_under hub parent))
      by (Link link) parent = subst (λ (p : Parent). IsApart hashes (hashed_refs mapping sealed p)) (sym parent) (link_apart mapping hashes sealed windows_valid link (link_under link parent))

  module _ (extract : Extract) (in_history : Contains (history feed (reverse sealed)) extract) (row : NRow) (row_in : Contains extract.rows row) (form : HasForm mapping definition row) where
    -- a key of a reference is read back, also a missing one
    key_told : (hub : ℕ) (key : Key) → hub < length mapping.hubs → fits_hub mapping hub key ≡ true → Contains (keys_at hub (parent_hubs mapping definition.parent) row.refs) key
        → key_read mapping (vault mapping hashes sealed) hub (hashes.hash (key ∷ [])) ≡ key
    key_told hub key under fits has = by (is_missing key) refl
      where
        rows : hub_rows_in hub (vault mapping hashes sealed) ≡ appended (hub_batch mapping hashes hub) (reverse sealed)
        rows = vault_hub mapping hashes sealed hub under

        by : (b : Bool) → is_missing key ≡ b → key_read mapping (vault mapping hashes sealed) hub (hashes.hash (key ∷ [])) ≡ key
        by true e =
            let same = the_missing mapping hub key fits e in
            let unfound : hub_row_by (hub_rows_in hub (vault mapping hashes sealed)) (hashes.hash (key ∷ [])) ≡ None =
            ap (λ all. hub_row_by all (hashes.hash (key ∷ []))) rows ∙ ap (λ k. hub_row_by (appended (hub_batch mapping hashes hub) (reverse sealed)) (hashes.hash (k ∷ []))) same
            ∙ missing_unfound mapping hashes sealed hub (hub_apart mapping hashes sealed windows_valid hub under) in
            ap (λ o. option_map_or (λ (row : HubRow). row.key) o (missing_key mapping hub)) unfound ∙ sym same
        by false e =
            let (found_row, found, same) = key_found mapping hashes sealed hub (hub_apart mapping hashes sealed windows_valid hub under) key (key_known mapping sealed feed definition at extract in_history row row_in hub key has e) in
            let there : hub_row_by (hub_rows_in hub (vault mapping hashes sealed)) (hashes.hash (key ∷ [])) ≡ Some found_row = ap (λ all. hub_row_by all (hashes.hash (key ∷ []))) rows ∙ found in
            ap (λ o. option_map_or (λ (row : HubRow). row.key) o (missing_key mapping hub)) there ∙ same

    known_row : is_known mapping definition.parent (reverse sealed) row.refs ≡ true
    known_row = row_known mapping sealed feed definition at extract in_history row row_in form

    -- the references are read back by their hash key
    pub refs_told : refs_read mapping (vault mapping hashes sealed) definition.parent (hashes.hash row.refs) ≡ Some row.refs
    refs_told = by definition.parent refl
      where
        by : (parent : Parent) → definition.parent ≡ parent → refs_read mapping (vault mapping hashes sealed) definition.parent (hashes.hash row.refs) ≡ Some row.refs
        by (Hub hub) parent =
            let fits : fit_hubs mapping (hub ∷ []) row.refs ≡ true = subst (λ (p : Parent). fit_hubs mapping (parent_hubs mapping p) row.refs ≡ true) parent form.fits in
            let (key, single, key_fits) = one_key mapping hub row.refs fits in
            let under = hub_under hub parent in
            let known : is_known mapping (Hub hub) (reverse sealed) (key ∷ []) ≡ true = rw (parent, single) at known_row in
            let (found_row, found, same) = key_found mapping hashes sealed hub (hub_apart mapping hashes sealed windows_valid hub under) key known in
            let there : hub_row_by (hub_rows_in hub (vault mapping hashes sealed)) (hashes.hash row.refs) ≡ Some found_row =
            ap (λ all. hub_row_by all (hashes.hash row.refs)) (vault_hub mapping hashes sealed hub under)
            ∙ ap (λ refs. hub_row_by (appended (hub_batch mapping hashes hub) (reverse sealed)) (hashes.hash refs)) single ∙ found in
            let read : refs_read mapping (vault mapping hashes sealed) (Hub hub) (hashes.hash row.refs) ≡ Some row.refs =
            ap (option_map (λ (row : HubRow). row.key ∷ [])) there ∙ ap (λ k. Some (k ∷ [])) same ∙ ap Some (sym single) in
            ap (λ (p : Parent). refs_read mapping (vault mapping hashes sealed) p (hashes.hash row.refs)) parent ∙ read
        by (Link link) parent =
            let under = link_under link parent in
            let known : is_known mapping (Link link) (reverse sealed) row.refs ≡ true = subst (λ (p : Parent). is_known mapping p (reverse sealed) row.refs ≡ true) parent known_row in
            let (found_row, found, hubs) = list_found mapping hashes sealed link (link_apart mapping hashes sealed windows_valid link under) row.refs known in
            let there : link_row_by (link_rows_in link (vault mapping hashes sealed)) (hashes.hash row.refs) ≡ Some found_row =
            ap (λ all. link_row_by all (hashes.hash row.refs)) (vault_link mapping hashes sealed link under) ∙ found in
            let fits : fit_hubs mapping (parent_hubs mapping (Link link)) row.refs ≡ true = subst (λ (p : Parent). fit_hubs mapping (parent_hubs mapping p) row.refs ≡ true) parent form.fits in
            let keys : keys_read mapping (vault mapping hashes sealed) (parent_hubs mapping (Link link)) (each_hash hashes row.refs) ≡ row.refs =
            each_read mapping hashes (vault mapping hashes sealed) (parent_hubs mapping (Link link)) row.refs fits
            (λ hub key in_hubs fit has. key_told hub key (hubs_under link hub in_hubs) fit (subst (λ (p : Parent). Contains (keys_at hub (parent_hubs mapping p) row.refs) key) (sym parent) has)) in
            let read : refs_read mapping (vault mapping hashes sealed) (Link link) (hashes.hash row.refs) ≡ Some row.refs =
            ap (option_map (λ (row : LinkRow). keys_read mapping (vault mapping hashes sealed) (parent_hubs mapping (Link link)) row.hubs)) there
            ∙ ap (λ digests. Some (keys_read mapping (vault mapping hashes sealed) (parent_hubs mapping (Link link)) digests)) hubs ∙ ap Some keys in
            ap (λ (p : Parent). refs_read mapping (vault mapping hashes sealed) p (hashes.hash row.refs)) parent ∙ read
