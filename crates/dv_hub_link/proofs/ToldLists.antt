-- The names of hubs tell the reference lists that windows bring to a link, so that its rows stand for them.
use Rattle.dv_hub_link.proofs.Vocabulary.{Bool, Contains, Contains-cons_there, Contains-flat_map, Contains-map, Contains-nil, Delivery, FeedDef, Hashes, Hub, HubName, HubRow, IsApart, Key, Link, LinkDef, List, Mapping, NRow, None, Option, Parent, Some, Staged, TellLists, Window, [], all_refs}
use Rattle.dv_hub_link.proofs.Vocabulary.{and_parts, ap, appended, are_rows_of, collision_free, each_hash, eqb-true, false, feed_hubs, filtered_members, fit_hubs, fits_hub, flat_map, flat_map_member, hashed_refs, hub_batch, hubs_by, is_fed_by, is_hub, is_known, is_missing, is_offered}
use Rattle.dv_hub_link.proofs.Vocabulary.{is_offered-member, is_row_of, is_staged, is_valid, is_window, key_at_first, key_found, key_named, key_or, key_under, key_with, keys_at, keys_under, length, list_all, ltb-true, map, map_member, missing_key, missing_unfound, not, offered_member}
use Rattle.dv_hub_link.proofs.Vocabulary.{offered_refs, offers, offers_of, option_map, parent_eq, parent_hubs, passes_at, refl, refs_from, reverse, reverse-reverse, slice_get, some_passes, some_passes_at, subst, sym, table_of, the_missing, true, valid_link, ℕ, ◌<◌, ◌==◌, ◌∙◌, ◌∷◌, ◌≡◌}

-- ---- hubs beside keys

keys_at_more : (h : ℕ) (hubs : List ℕ) (k : Key) (refs : List Key) (hub : ℕ) (key : Key) → Contains (keys_at hub hubs refs) key → Contains (keys_at hub (h ∷ hubs) (k ∷ refs)) key
keys_at_more h hubs k refs hub key has = by (h == hub) refl
  where
    by : (t : Bool) → (h == hub) ≡ t → Contains (keys_at hub (h ∷ hubs) (k ∷ refs)) key
    by true e = rw e (Contains-cons_there k (keys_at hub hubs refs) key has)
    by false e = rw e has

-- keys that are told each are told together
all_told : (mapping : Mapping) (hashes : Hashes) (names : List HubName) (hubs : List ℕ) (refs : List Key) → fit_hubs mapping hubs refs ≡ true → list_all (is_hub mapping) hubs ≡ true
    → ((hub : ℕ) (key : Key) → is_hub mapping hub ≡ true → fits_hub mapping hub key ≡ true → Contains (keys_at hub hubs refs) key → key_under mapping names hub (hashes.hash (key ∷ [])) ≡ key)
    → keys_under mapping names hubs (each_hash hashes refs) ≡ refs
all_told mapping hashes names [] [] e known each = refl
all_told mapping hashes names [] (k ∷ refs) e known each = cc
all_told mapping hashes names (h ∷ hubs) [] e known each = cc
all_told mapping hashes names (h ∷ hubs) (k ∷ refs) e known each =
    let fits = and_parts (fits_hub mapping h k) (fit_hubs mapping hubs refs) e in
    let are = and_parts (is_hub mapping h) (list_all (is_hub mapping) hubs) known in
    let here = each h k are.0 fits.0 (key_at_first h hubs k refs) in
    let rest = all_told mapping hashes names hubs refs fits.1 are.1 (λ hub key is fit has. each hub key is fit (keys_at_more h hubs k refs hub key has)) in
    λ i. here i ∷ rest i

-- ---- the lists of a link

-- what a row of a link's feed has
pub record IsFed (mapping : Mapping) (link : ℕ) (window : Window) (refs : List Key) : Type 0 where
  pub staged : Staged
  pub there : Contains window.extracts staged
  pub row : NRow
  pub row_in : Contains staged.rows row
  pub row_is : row.refs ≡ refs
  pub hubs : feed_hubs mapping staged.feed ≡ parent_hubs mapping (Link link)
  pub fit : fit_hubs mapping (parent_hubs mapping (Link link)) refs ≡ true

module _ (mapping : Mapping) (link : ℕ) where
  fed_parent : (parent : Parent) → parent_eq (Link link) parent ≡ true → parent ≡ Link link
  fed_parent (Hub hub) e = cc
  fed_parent (Link n) e = ap Link (sym (eqb-true link n e))

  -- a feed that delivers to the link
  fed_feed : (feed : Option FeedDef) → is_fed_by (Link link) feed ≡ true → (def : FeedDef) × (feed ≡ Some def) × (def.parent ≡ Link link)
  fed_feed None e = cc
  fed_feed (Some def) e = (def, refl, fed_parent def.parent e)

  -- an offered list is of a row of a feed of the link
  fed : (window : Window) → is_window mapping window ≡ true → (refs : List Key) → Contains (offered_refs mapping (Link link) window) refs → IsFed mapping link window refs
  fed window whole refs has =
      let (offer, offer_in, is) = map_member (λ (offer : Delivery). offer.refs) (offers mapping (Link link) window) refs has in
      let (within, kept) = (filtered_members (λ (o : Delivery). not (list_all is_missing o.refs)) (flat_map (offers_of mapping (Link link)) window.extracts) offer).0 offer_in in
      let (staged, there, offered) = flat_map_member (offers_of mapping (Link link)) window.extracts offer within in
      let (brought, here, made) = map_member (λ refs. record { table = table_of (Link link); refs = refs; feed = staged.feed }) (refs_from mapping (Link link) staged) offer offered in
      let same : brought ≡ refs = ap (λ (d : Delivery). d.refs) made ∙ is in
      of_staged staged there brought here same
    where
      staged_whole : (staged : Staged) → Contains window.extracts staged → is_staged mapping staged ≡ true
      staged_whole staged there = passes_at (is_staged mapping) window.extracts staged (and_parts _ (list_all (is_staged mapping) window.extracts) (and_parts _ _ whole).0).1 there

      of_staged : (staged : Staged) → Contains window.extracts staged → (brought : List Key) → Contains (refs_from mapping (Link link) staged) brought → brought ≡ refs → IsFed mapping link window refs
      of_staged staged there brought here same = by (is_fed_by (Link link) (slice_get mapping.feeds staged.feed)) refl
        where
          by : (t : Bool) → is_fed_by (Link link) (slice_get mapping.feeds staged.feed) ≡ t → IsFed mapping link window refs
          by false e = let none : Contains [] brought = rw e at here in Contains-nil brought none
          by true e =
              let rows : Contains (all_refs staged.rows) brought = rw e at here in
              let (row, row_in, row_is) = map_member (λ (r : NRow). r.refs) staged.rows brought rows in
              let (def, feed_is, parent_is) = fed_feed (slice_get mapping.feeds staged.feed) e in
              let are : are_rows_of mapping def staged.rows ≡ true = let w = staged_whole staged there in rw feed_is at w in
              let formed = passes_at (is_row_of mapping def) staged.rows row (and_parts _ (list_all (is_row_of mapping def) staged.rows) (and_parts _ _ (and_parts _ _ (and_parts _ _ are).0).0).0).1 row_in in
              let fits : fit_hubs mapping (parent_hubs mapping def.parent) row.refs ≡ true = (and_parts _ _ (and_parts _ _ (and_parts _ _ (and_parts _ _ (and_parts _ _ formed).0).0).0).0).0 in
              record {
                staged = staged;
                there = there;
                row = row;
                row_in = row_in;
                row_is = row_is ∙ same;
                hubs = ap (hubs_by mapping) feed_is ∙ ap (parent_hubs mapping) parent_is;
                fit = subst (λ r. fit_hubs mapping (parent_hubs mapping (Link link)) r ≡ true) (row_is ∙ same) (subst (λ p. fit_hubs mapping (parent_hubs mapping p) row.refs ≡ true) parent_is fits);
              }

  -- a key of it that isn't missing is offered to its hub
  key_offered : (window : Window) (refs : List Key) → IsFed mapping link window refs → (hub : ℕ) (key : Key) → Contains (keys_at hub (parent_hubs mapping (Link link)) refs) key → is_missing key ≡ false
      → Contains (offered_refs mapping (Hub hub) window) (key ∷ [])
  key_offered window refs is hub key has present =
      let at : Contains (keys_at hub (feed_hubs mapping is.staged.feed) is.row.refs) key =
      subst (λ hs. Contains (keys_at hub hs is.row.refs) key) (sym is.hubs) (subst (λ r. Contains (keys_at hub (parent_hubs mapping (Link link)) r) key) (sym is.row_is) has) in
      let from : Contains (refs_from mapping (Hub hub) is.staged) (key ∷ []) =
      Contains-flat_map (λ (row : NRow). map (λ k. k ∷ []) (keys_at hub (feed_hubs mapping is.staged.feed) row.refs)) is.staged.rows is.row (key ∷ []) is.row_in
      (Contains-map (λ k. k ∷ []) (keys_at hub (feed_hubs mapping is.staged.feed) is.row.refs) key at) in
      let offer : Delivery = record { table = table_of (Hub hub); refs = key ∷ []; feed = is.staged.feed } in
      let offered = Contains-flat_map (offers_of mapping (Hub hub)) window.extracts is.staged offer is.there
      (Contains-map (λ refs. record { table = table_of (Hub hub); refs = refs; feed = is.staged.feed }) (refs_from mapping (Hub hub) is.staged) (key ∷ []) from) in
      let kept : not (list_all is_missing (key ∷ [])) ≡ true = rw present refl in
      Contains-map (λ (o : Delivery). o.refs) (offers mapping (Hub hub) window) offer ((filtered_members (λ (o : Delivery). not (list_all is_missing o.refs)) (flat_map (offers_of mapping (Hub hub)) window.extracts) offer).1 (offered, kept))

  hubs_known : is_valid mapping ≡ true → list_all (is_hub mapping) (parent_hubs mapping (Link link)) ≡ true
  hubs_known valid = by (slice_get mapping.links link) refl
    where
      by : (o : Option LinkDef) → slice_get mapping.links link ≡ o → list_all (is_hub mapping) (parent_hubs mapping (Link link)) ≡ true
      by None e = rw e refl
      by (Some def) e = let all = (valid_link mapping valid link def e).in_range in rw e all

  module _ (hashes : Hashes) (names : List HubName) (windows : List Window) (tell : TellLists mapping hashes names windows) where
    -- a key beside its hub is told
    key_told : (window : Window) → Contains windows window → (refs : List Key) → IsFed mapping link window refs → (hub : ℕ) (key : Key) → is_hub mapping hub ≡ true → fits_hub mapping hub key ≡ true
        → Contains (keys_at hub (parent_hubs mapping (Link link)) refs) key
        → key_under mapping names hub (hashes.hash (key ∷ [])) ≡ key
    key_told window window_in refs is hub key known fits has = by (is_missing key) refl
      where
        declared : hub < length mapping.hubs
        declared = ltb-true hub (length mapping.hubs) known

        apart : IsApart hashes (hashed_refs mapping (reverse (tell.named hub)) (Hub hub))
        apart = (collision_free mapping hashes (reverse (tell.named hub)) (Hub hub)).0 (tell.apart hub declared)

        named : (k : Key) (o : Option Key) → key_with (hashes.hash (k ∷ [])) (appended (hub_batch mapping hashes hub) (reverse (reverse (tell.named hub)))) ≡ o → key_named hub (hashes.hash (k ∷ [])) names ≡ o
        named k o e = tell.of_rows hub (hashes.hash (k ∷ [])) declared ∙ ap (λ ws. key_with (hashes.hash (k ∷ [])) (appended (hub_batch mapping hashes hub) ws)) (sym (reverse-reverse (tell.named hub))) ∙ e

        by : (t : Bool) → is_missing key ≡ t → key_under mapping names hub (hashes.hash (key ∷ [])) ≡ key
        by false e =
            let offered : is_offered mapping (Hub hub) window (key ∷ []) ≡ true = is_offered-member mapping (Hub hub) window (key ∷ []) (key_offered window refs is hub key has e) in
            let brought = some_passes_at (λ (w : Window). is_offered mapping (Hub hub) w (key ∷ [])) (tell.named hub) window (tell.among hub window window_in) offered in
            let (row, found, same) = key_found mapping hashes (reverse (tell.named hub)) hub apart key (subst (λ ws. is_known mapping (Hub hub) ws (key ∷ []) ≡ true) (sym (reverse-reverse (tell.named hub))) brought) in
            ap (key_or (missing_key mapping hub)) (named key (Some key) (ap (option_map (λ (r : HubRow). r.key)) found ∙ ap Some same))
        by true e =
            let is = the_missing mapping hub key fits e in
            subst (λ k. key_under mapping names hub (hashes.hash (k ∷ [])) ≡ k) (sym is)
            (ap (key_or (missing_key mapping hub)) (named (missing_key mapping hub) None (ap (option_map (λ (r : HubRow). r.key)) (missing_unfound mapping hashes (reverse (tell.named hub)) hub apart))))

    -- a list that windows bring is told
    pub list_told : (refs : List Key) → is_known mapping (Link link) windows refs ≡ true → keys_under mapping names (parent_hubs mapping (Link link)) (each_hash hashes refs) ≡ refs
    list_told refs known =
        let (window, window_in, offered) = some_passes (λ (w : Window). is_offered mapping (Link link) w refs) windows known in
        let is = fed window (passes_at (is_window mapping) windows window tell.whole window_in) refs (offered_member mapping (Link link) window refs offered) in
        all_told mapping hashes names (parent_hubs mapping (Link link)) refs is.fit (hubs_known tell.valid) (key_told window window_in refs is)
