-- The link rows that the vault tells of a feed are those of the whole reference lists of its content.
use Rattle.dv_bridge.proofs.Vocabulary.{Bool, Contains, Contains-cons_here, Contains-cons_there, Contains-map, Contains-nil, FeedDef, HasForm, HasZeroKeys, Hashes, Hub, IsApart, IsStrictlySortedBy, IsStrictlySortedBy-filter, IsStrictlySortedBy-filter_map, Key, Link, LinkDef, LinkRow, List}
use Rattle.dv_bridge.proofs.Vocabulary.{Mapping, NRow, None, Option, Parent, Some, StatusRow, TableRows, Window, [], all_pass_replicate, all_refs, and_parts, ap, are_windows_valid, arith, as_many, ascending-sorted_by, bytes_eq, bytes_eq-Decides, cond, content, content_delivered, content_row}
use Rattle.dv_bridge.proofs.Vocabulary.{delivered_refs, digest_cmp, each_hash, eqb-true, false, false_from_ne_true, false≢true, feed_apart, feed_hubs, feed_links, filter, filter_map, filter_map_member, filtered_members, fit_hubs, fits_hub, found_member, got_member, hashed_refs, hub_apart}
use Rattle.dv_bridge.proofs.Vocabulary.{is_declared, is_hub, is_known, is_link_feed, is_missing, is_of_link, is_valid, is_whole, is_zero, key_at_first, key_at_later, key_known, keys_at, known_apart, known_hashed, known_there, length, link_apart, link_cmp, link_hubs, link_row_by, link_rows_in}
use Rattle.dv_bridge.proofs.Vocabulary.{links_at, links_by, list_all, list_any, list_found, ltb-true, map, map_member, member_of_filter_map, missing_key, missing_refs, nat_list_cmp_total, none_passes, not, not-true, one_value, option_map, option_map_or, parent_hubs, parent_links, parts_of}
use Rattle.dv_bridge.proofs.Vocabulary.{passes_at, place_of, position, position-cons, present_at, present_has, present_parents, refl, replicate, reverse, row_form, row_known, row_present, slice_get, sorted_by, status_rows_in, subst, suc, sym, true, valid_feed, valid_link, vault, vault_link}
use Rattle.dv_bridge.proofs.Vocabulary.{whole_refs, ℕ, ◌<◌, ◌==◌, ◌||◌, ◌∙◌, ◌∷◌, ◌≡◌}
use Rattle.dv_bridge.proofs.LinkedFeeds.{AreKeysApart, AreLinksOf, IsRowOf}

-- ---- references and their hubs

-- the place of a hub, counted in hubs of which the first is another one
place_later : (hubs : List ℕ) (n : ℕ) (placed : Option ℕ) → option_map_or (λ place. place) (option_map suc placed) (length (n ∷ hubs)) ≡ suc (option_map_or (λ place. place) placed (length hubs))
place_later hubs n None = refl
place_later hubs n (Some place) = refl

-- the key at the place of a hub is one of the hub's keys
placed_key : (hub : ℕ) (hubs : List ℕ) (refs : List Key) (key : Key) → length refs ≡ length hubs
    → slice_get refs (option_map_or (λ place. place) (position (λ h. h == hub) hubs) (length hubs)) ≡ Some key → Contains (keys_at hub hubs refs) key × Contains hubs hub
placed_key hub [] [] key same at = let no : None ≡ Some key = at in cc
placed_key hub [] (other ∷ refs) key same at = absurd (omega (arith, same))
placed_key hub (first ∷ hubs) [] key same at = absurd (omega (arith, same))
placed_key hub (first ∷ hubs) (other ∷ refs) key same at = by (placed_key hub hubs refs key (omega (arith, same))) (first == hub) refl
  where
    placed : (b : Bool) → (first == hub) ≡ b → position (λ h. h == hub) (first ∷ hubs) ≡ cond b (Some 0) (option_map suc (position (λ h. h == hub) hubs))
    placed b e = position-cons (λ h. h == hub) first hubs ∙ ap (λ b. cond b (Some 0) (option_map suc (position (λ h. h == hub) hubs))) e

    got : Option ℕ → Option Key
    got place = slice_get (other ∷ refs) (option_map_or (λ place. place) place (length (first ∷ hubs)))

    by : (slice_get refs (option_map_or (λ place. place) (position (λ h. h == hub) hubs) (length hubs)) ≡ Some key → Contains (keys_at hub hubs refs) key × Contains hubs hub)
        → (b : Bool) → (first == hub) ≡ b → Contains (keys_at hub (first ∷ hubs) (other ∷ refs)) key × Contains (first ∷ hubs) hub
    by later true e =
        let here : other ≡ key = one_value (Some other) other key refl (sym (ap got (placed true e)) ∙ at) in
        let is : first ≡ hub = eqb-true first hub e in
        (subst (Contains (keys_at hub (first ∷ hubs) (other ∷ refs))) here (subst (λ h. Contains (keys_at h (first ∷ hubs) (other ∷ refs)) other) is (key_at_first first hubs other refs)), subst (Contains (first ∷ hubs)) is (Contains-cons_here first hubs))
    by later false e =
        let (has, in_hubs) = later (sym (ap got (placed false e) ∙ ap (slice_get (other ∷ refs)) (place_later hubs first (position (λ h. h == hub) hubs))) ∙ at) in
        (key_at_later hub first hubs key other refs has, Contains-cons_there first hubs hub in_hubs)

-- a test of the hash keys of references is that of the references, where it is at each
any_alike : (hashes : Hashes) (mapping : Mapping) (hubs : List ℕ) (refs : List Key) → fit_hubs mapping hubs refs ≡ true
    → ((hub : ℕ) (key : Key) → Contains hubs hub → Contains (keys_at hub hubs refs) key → is_zero (hashes.hash (key ∷ [])) ≡ is_missing key)
    → list_any is_zero (each_hash hashes refs) ≡ list_any is_missing refs
any_alike hashes mapping [] [] fits alike = refl
any_alike hashes mapping [] (key ∷ refs) fits alike = let no : false ≡ true = fits in cc
any_alike hashes mapping (hub ∷ hubs) [] fits alike = let no : false ≡ true = fits in cc
any_alike hashes mapping (hub ∷ hubs) (key ∷ refs) fits alike =
    let parts = and_parts (fits_hub mapping hub key) (fit_hubs mapping hubs refs) fits in
    let first = alike hub key (Contains-cons_here hub hubs) (key_at_first hub hubs key refs) in
    let rest = any_alike hashes mapping hubs refs parts.1 (λ h k in_hubs has. alike h k (Contains-cons_there hub hubs h in_hubs) (key_at_later h hub hubs k key refs has)) in
    λ i. first i || rest i

-- ---- the zero key

-- a hash key of zeros is the zero key of its width
all_zero : (digest : List ℕ) → is_zero digest ≡ true → digest ≡ replicate (length digest) 0
all_zero [] e = refl
all_zero (byte ∷ digest) e =
    let (first, rest) = and_parts (byte == 0) (is_zero digest) e in
    let here : byte ≡ 0 = eqb-true byte 0 first in
    let later = all_zero digest rest in
    λ i. here i ∷ later i

-- the missing key of a hub is missing
missing_there : (mapping : Mapping) (hub : ℕ) → is_missing (missing_key mapping hub) ≡ true
missing_there mapping hub = all_pass_replicate (λ (part : List ℕ). length part == 0) (parts_of (slice_get mapping.hubs hub)) [] refl

module _ (hashes : Hashes) (zeros : HasZeroKeys hashes) where
  missing_zero : (key : Key) → is_missing key ≡ true → is_zero (hashes.hash (key ∷ [])) ≡ true
  missing_zero key missing = ap is_zero (zeros.zero key missing) ∙ all_pass_replicate (λ byte. byte == 0) zeros.width 0 refl

  zero_key : (key : Key) → is_zero (hashes.hash (key ∷ [])) ≡ true → hashes.hash (key ∷ []) ≡ replicate zeros.width 0
  zero_key key zero = all_zero (hashes.hash (key ∷ [])) zero ∙ ap (λ width. replicate width 0) (zeros.sized (key ∷ []))

  -- a key that windows bring to a hub hasn't the zero key
  known_unzero : (mapping : Mapping) (sealed : List Window) (hub : ℕ) → IsApart hashes (hashed_refs mapping sealed (Hub hub)) → (key : Key) → is_known mapping (Hub hub) (reverse sealed) (key ∷ []) ≡ true → is_zero (hashes.hash (key ∷ [])) ≡ false
  known_unzero mapping sealed hub apart key known =
      false_from_ne_true (is_zero (hashes.hash (key ∷ []))) (λ zero.
      let missing = missing_key mapping hub in
      let alike : hashes.hash (key ∷ []) ≡ hashes.hash (missing ∷ []) = zero_key key zero ∙ sym (zeros.zero missing (missing_there mapping hub)) in
      let same : key ∷ [] ≡ missing ∷ [] =
      apart (key ∷ []) (missing ∷ []) (known_hashed mapping hashes sealed (Hub hub) apart (key ∷ []) known) (Contains-cons_here (missing_refs mapping (Hub hub)) _) alike in
      let there = known_there mapping (Hub hub) (reverse sealed) (key ∷ []) known in
      let gone : list_all is_missing (missing ∷ []) ≡ true = rw (missing_there mapping hub) refl in
      false≢true (sym there ∙ ap (list_all is_missing) same ∙ gone))

-- ---- a feed of a link

-- a feed of the mapping that delivers a link
pub record LinkFeed (mapping : Mapping) (feed : ℕ) : Type 0 where
  pub definition : FeedDef
  pub link : ℕ
  pub at : slice_get mapping.feeds feed ≡ Some definition
  pub parent : definition.parent ≡ Link link

pub link_feed : (mapping : Mapping) (feed : ℕ) → is_link_feed (slice_get mapping.feeds feed) ≡ true → LinkFeed mapping feed
link_feed mapping feed = by (slice_get mapping.feeds feed) refl
  where
    of : (definition : FeedDef) → slice_get mapping.feeds feed ≡ Some definition → (parent : Parent) → definition.parent ≡ parent → is_of_link parent ≡ true → LinkFeed mapping feed
    of definition at (Hub hub) parent is = let no : false ≡ true = is in cc
    of definition at (Link link) parent is = record { definition = definition; link = link; at = at; parent = parent }

    by : (o : Option FeedDef) → slice_get mapping.feeds feed ≡ o → is_link_feed o ≡ true → LinkFeed mapping feed
    by None at is = let no : false ≡ true = is in cc
    by (Some definition) at is = of definition at definition.parent refl is

module _ (mapping : Mapping) (hashes : Hashes) (sealed : List Window) (valid : is_valid mapping ≡ true) (windows_valid : are_windows_valid mapping hashes sealed ≡ true) (date feed : ℕ) (its : LinkFeed mapping feed) where
  abbrev tables : List TableRows
  tables = vault mapping hashes sealed

  abbrev rows : List NRow
  rows = content feed sealed date

  abbrev links : List LinkRow
  links = link_rows_in its.link tables

  abbrev hubs : List ℕ
  hubs = feed_hubs mapping feed

  link_under : its.link < length mapping.links
  link_under = ltb-true its.link (length mapping.links) (subst (λ (p : Parent). is_declared mapping p ≡ true) its.parent (valid_feed mapping valid feed its.definition its.at).declared)

  hubs_of_parent : hubs ≡ parent_hubs mapping its.definition.parent
  hubs_of_parent = rw its.at refl

  hub_under : (hub : ℕ) → Contains hubs hub → hub < length mapping.hubs
  hub_under hub has =
      ltb-true hub (length mapping.hubs) (by (slice_get mapping.links its.link) refl (subst (λ hubs. Contains hubs hub) (hubs_of_parent ∙ ap (parent_hubs mapping) its.parent) has))
    where
      by : (o : Option LinkDef) → slice_get mapping.links its.link ≡ o → Contains (link_hubs o) hub → is_hub mapping hub ≡ true
      by None e has = Contains-nil hub has
      by (Some found) e has = passes_at (is_hub mapping) found.hubs hub (valid_link mapping valid its.link found e).in_range has

  -- ---- a row of the content

  module _ (row : NRow) (has : Contains rows row) where
    form : HasForm mapping its.definition row
    form = row_form mapping hashes sealed feed its.definition valid windows_valid its.at date row has

    fits : fit_hubs mapping hubs row.refs ≡ true
    fits = subst (λ hubs. fit_hubs mapping hubs row.refs ≡ true) (sym hubs_of_parent) form.fits

    -- a key that isn't missing is known to its hub
    row_key_known : (hub : ℕ) (key : Key) → Contains (keys_at hub hubs row.refs) key → is_missing key ≡ false → is_known mapping (Hub hub) (reverse sealed) (key ∷ []) ≡ true
    row_key_known hub key key_in there =
        let (extract, in_history, row_in) = content_row mapping hashes sealed feed its.definition valid windows_valid its.at date row has in
        key_known mapping sealed feed its.definition its.at extract in_history row row_in hub key (subst (λ hubs. Contains (keys_at hub hubs row.refs) key) hubs_of_parent key_in) there

    -- the link has the row of its references
    link_found : (found : LinkRow) × (link_row_by links (hashes.hash row.refs) ≡ Some found) × IsRowOf hashes row.refs found
    link_found =
        let (extract, in_history, row_in) = content_row mapping hashes sealed feed its.definition valid windows_valid its.at date row has in
        let known : is_known mapping (Link its.link) (reverse sealed) row.refs ≡ true =
        subst (λ (p : Parent). is_known mapping p (reverse sealed) row.refs ≡ true) its.parent (row_known mapping sealed feed its.definition its.at extract in_history row row_in form) in
        let (found, is, hubs_of) = list_found mapping hashes sealed its.link (link_apart mapping hashes sealed windows_valid its.link link_under) row.refs known in
        let there : link_row_by links (hashes.hash row.refs) ≡ Some found = ap (λ all. link_row_by all (hashes.hash row.refs)) (vault_link mapping hashes sealed its.link link_under) ∙ is in
        let (member, same) = found_member (λ (r : LinkRow). bytes_eq r.digest (hashes.hash row.refs)) links found there in
        (found, there, record { digest = (bytes_eq-Decides found.digest (hashes.hash row.refs)).0 same; hubs = hubs_of })

  -- ---- the reference lists that miss none

  abbrev lists : List (List Key)
  lists = whole_refs rows

  whole_row : (refs : List Key) → Contains lists refs → (row : NRow) × Contains rows row × (row.refs ≡ refs) × (list_any is_missing row.refs ≡ false)
  whole_row refs has =
      let (within, kept) = (filtered_members (λ (refs : List Key). not (list_any is_missing refs)) (all_refs rows) refs).0 has in
      let (row, row_in, same) = map_member (λ (row : NRow). row.refs) rows refs within in
      (row, row_in, same, ap (list_any is_missing) same ∙ not-true (list_any is_missing refs) kept)

  lists_apart : IsApart hashes lists
  lists_apart a b a_in b_in = feed_apart mapping hashes sealed feed its.definition valid windows_valid its.at a b (delivered a a_in) (delivered b b_in)
    where
      delivered : (refs : List Key) → Contains lists refs → Contains (delivered_refs feed sealed) refs
      delivered refs has =
          let (row, row_in, same, there) = whole_row refs has in
          subst (Contains (delivered_refs feed sealed)) same (content_delivered mapping hashes sealed feed its.definition valid windows_valid its.at date row row_in)

  long : (refs : List Key) → Contains lists refs → length refs ≡ length hubs
  long refs has =
      let (row, row_in, same, there) = whole_row refs has in
      ap length (sym same) ∙ as_many mapping hubs row.refs (fits row row_in)

  -- a key at a hub's place is known to the hub, which is one of the mapping's
  place_known : (hub : ℕ) (refs : List Key) (key : Key) → Contains lists refs → slice_get refs (place_of mapping feed hub) ≡ Some key → (hub < length mapping.hubs) × (is_known mapping (Hub hub) (reverse sealed) (key ∷ []) ≡ true)
  place_known hub refs key has got =
      let (row, row_in, same, there) = whole_row refs has in
      let (key_in, in_hubs) = placed_key hub hubs refs key (long refs has) got in
      let keyed : Contains (keys_at hub hubs row.refs) key = subst (λ refs. Contains (keys_at hub hubs refs) key) (sym same) key_in in
      let key_there : is_missing key ≡ false = none_passes is_missing row.refs key there (subst (λ refs. Contains refs key) (sym same) (got_member refs (place_of mapping feed hub) key got)) in
      (hub_under hub in_hubs, row_key_known row row_in hub key keyed key_there)

  -- ---- the rows of the link

  abbrev present : List (List ℕ)
  present = present_parents (status_rows_in feed tables) date

  abbrev found_rows : List LinkRow
  found_rows = filter_map (link_row_by links) present

  rows_ascend : IsStrictlySortedBy link_cmp (links_at links (status_rows_in feed tables) date)
  rows_ascend =
      let parents = map (λ (row : StatusRow). row.parent) (status_rows_in feed tables) in
      let sorted = IsStrictlySortedBy-filter digest_cmp (λ parent. present_at (status_rows_in feed tables) parent date) (sorted_by digest_cmp parents) (ascending-sorted_by digest_cmp nat_list_cmp_total parents) in
      let found = IsStrictlySortedBy-filter_map digest_cmp (link_row_by links) (λ (row : LinkRow). row.digest) keyed present sorted in
      IsStrictlySortedBy-filter link_cmp is_whole found_rows found
    where
      keyed : (digest : List ℕ) (row : LinkRow) → link_row_by links digest ≡ Some row → row.digest ≡ digest
      keyed digest row is = (bytes_eq-Decides row.digest digest).0 (found_member (λ (r : LinkRow). bytes_eq r.digest digest) links row is).1

  module _ (zeros : HasZeroKeys hashes) where
    -- a row has the zero key exactly where a key is missing
    zeros_told : (row : NRow) → Contains rows row → list_any is_zero (each_hash hashes row.refs) ≡ list_any is_missing row.refs
    zeros_told row has = any_alike hashes mapping hubs row.refs (fits row has) alike
      where
        alike : (hub : ℕ) (key : Key) → Contains hubs hub → Contains (keys_at hub hubs row.refs) key → is_zero (hashes.hash (key ∷ [])) ≡ is_missing key
        alike hub key in_hubs key_in = by (is_missing key) refl
          where
            by : (b : Bool) → is_missing key ≡ b → is_zero (hashes.hash (key ∷ [])) ≡ is_missing key
            by true e = missing_zero hashes zeros key e ∙ sym e
            by false e = known_unzero hashes zeros mapping sealed hub (hub_apart mapping hashes sealed windows_valid hub (hub_under hub in_hubs)) key (row_key_known row has hub key key_in e) ∙ sym e

    link_of : (refs : List Key) → Contains lists refs → (row : LinkRow) × Contains (filter is_whole found_rows) row × IsRowOf hashes refs row
    link_of refs has =
        let (row, row_in, same, there) = whole_row refs has in
        let (found, is, of) = link_found row row_in in
        let parent_in = row_present mapping hashes sealed feed its.definition valid windows_valid its.at date row row_in in
        let among : Contains found_rows found = member_of_filter_map (link_row_by links) present (hashes.hash row.refs) found parent_in is in
        let whole : is_whole found ≡ true = ap not (ap (list_any is_zero) of.hubs ∙ zeros_told row row_in ∙ there) in
        (found, (filtered_members is_whole found_rows found).1 (among, whole), subst (λ refs. IsRowOf hashes refs found) same of)

    refs_of : (row : LinkRow) → Contains (filter is_whole found_rows) row → (refs : List Key) × Contains lists refs × IsRowOf hashes refs row
    refs_of found has =
        let (among, whole) = (filtered_members is_whole found_rows found).0 has in
        let (digest, parent_in, is) = filter_map_member (link_row_by links) present found among in
        let (row, row_in, hashed) = present_has mapping hashes sealed feed its.definition valid windows_valid its.at date digest parent_in in
        let (other, other_is, other_of) = link_found row row_in in
        let same : other ≡ found = one_value (link_row_by links (hashes.hash row.refs)) other found other_is (ap (link_row_by links) hashed ∙ is) in
        let of : IsRowOf hashes row.refs found = subst (IsRowOf hashes row.refs) same other_of in
        let there : list_any is_missing row.refs ≡ false = sym (zeros_told row row_in) ∙ ap (list_any is_zero) (sym of.hubs) ∙ not-true (list_any is_zero found.hubs) whole in
        let within : Contains (all_refs rows) row.refs = Contains-map (λ (row : NRow). row.refs) rows row row_in in
        (row.refs, (filtered_members (λ (refs : List Key). not (list_any is_missing refs)) (all_refs rows) row.refs).1 (within, ap not there), of)

    -- the link rows of a feed at a date are those of the whole reference lists of its content
    pub feed_links_tell : AreLinksOf hashes (feed_hubs mapping feed) (feed_links mapping (vault mapping hashes sealed) date feed) (whole_refs (content feed sealed date))
    feed_links_tell =
        subst (λ links. AreLinksOf hashes hubs links lists)
        (sym (ap (links_by tables date feed) its.at ∙ ap (λ (p : Parent). links_at (parent_links tables p) (status_rows_in feed tables) date) its.parent))
        (record { ascending = rows_ascend; link_of = link_of; refs_of = refs_of; apart = lists_apart; long = long })

-- keys of one hub in such lists of two feeds are one where they have one hash key
pub feeds_apart : (mapping : Mapping) (hashes : Hashes) (sealed : List Window) → is_valid mapping ≡ true → are_windows_valid mapping hashes sealed ≡ true → (date f g hub : ℕ) → LinkFeed mapping f → LinkFeed mapping g
    → AreKeysApart hashes (place_of mapping f hub) (whole_refs (content f sealed date)) (place_of mapping g hub) (whole_refs (content g sealed date))
feeds_apart mapping hashes sealed valid windows_valid date f g hub f_its g_its refs other a b refs_in other_in a_at b_at same =
    let (under, a_known) = place_known mapping hashes sealed valid windows_valid date f f_its hub refs a refs_in a_at in
    let (_, b_known) = place_known mapping hashes sealed valid windows_valid date g g_its hub other b other_in b_at in
    let one : a ∷ [] ≡ b ∷ [] = known_apart mapping hashes sealed (Hub hub) (hub_apart mapping hashes sealed windows_valid hub under) (a ∷ []) (b ∷ []) a_known b_known same in
    cc
