-- The reference lists of a feed's rows are known to its hub or its link, and so have hash keys of their own.
use Rattle.dv_records.proofs.Vocabulary.{Contains, Contains-cons_here, Contains-flat_map, Contains-map, Delivery, Extract, FeedDef, Hashes, Hub, IsApart, Key, Link, List, Mapping, NRow, Parent, Some, Staged, Window, [], all_refs, ap, delivered_refs, eq-eqb, extract_of, false, feed_hubs}
use Rattle.dv_records.proofs.Vocabulary.{filter_map_member, filtered_members, fit_hubs, flat_map, flat_map_member, hashed_refs, history, is_fed_by, is_known, is_missing, is_offered, is_window, keys_at, list_all, map, map_member, not, offers, offers_of, parent_hubs, passes_at, refl, refs_from}
use Rattle.dv_records.proofs.Vocabulary.{reverse, rules, slice_get, some_passes_at, subst, sym, table_of, true, ℕ, ◌∙◌, ◌∷◌, ◌≡◌}
use Rattle.dv_records.proofs.{Delivered.is_offered-member, KnownRefs.known_apart, Reversing.history_member, WindowRows.AreRows, WindowRows.HasForm, WindowRows.one_key, WindowRows.rows_at, WindowRows.some_there, WindowRows.staged_of}

-- ---- offers

kept : (refs : List Key) → list_all is_missing refs ≡ false → not (list_all is_missing refs) ≡ true
kept refs e = rw e

alone : (key : Key) → is_missing key ≡ false → list_all is_missing (key ∷ []) ≡ false
alone key e = rw e

module _ (mapping : Mapping) (feed : ℕ) (window : Window) (extract : Extract) (is : extract_of feed window ≡ Some extract) where
  -- a list that the rows of a feed's extract bring is offered, unless it is missing as a whole
  offered : (parent : Parent) (refs : List Key) → Contains (refs_from mapping parent (record { feed = feed; rows = extract.rows })) refs → list_all is_missing refs ≡ false → is_offered mapping parent window refs ≡ true
  offered parent refs has there =
      let (staged, member, number, rows) = staged_of feed window extract is in
      let whole : staged ≡ record { feed = feed; rows = extract.rows } = λ i. record { feed = number i; rows = rows i } in
      let brought : Contains (refs_from mapping parent staged) refs = subst (λ (s : Staged). Contains (refs_from mapping parent s) refs) (sym whole) has in
      let offer : Delivery = record { table = table_of parent; refs = refs; feed = staged.feed } in
      let made_offer : Contains (offers_of mapping parent staged) offer = Contains-map (λ refs. record { table = table_of parent; refs = refs; feed = staged.feed }) (refs_from mapping parent staged) refs brought in
      let all : Contains (flat_map (offers_of mapping parent) window.extracts) offer = Contains-flat_map (offers_of mapping parent) window.extracts staged offer member made_offer in
      let within : Contains (offers mapping parent window) offer = (filtered_members (λ (offer : Delivery). not (list_all is_missing offer.refs)) (flat_map (offers_of mapping parent) window.extracts) offer).1 (all, kept refs there) in
      is_offered-member mapping parent window refs (Contains-map (λ (offer : Delivery). offer.refs) (offers mapping parent window) offer within)

  module _ (definition : FeedDef) (at : slice_get mapping.feeds feed ≡ Some definition) (row : NRow) (row_in : Contains extract.rows row) where
    hubs_of_feed : feed_hubs mapping feed ≡ parent_hubs mapping definition.parent
    hubs_of_feed = rw at

    -- each key that a row refers to, and that isn't missing, is offered to its hub
    pub key_offered : (hub : ℕ) (key : Key) → Contains (keys_at hub (parent_hubs mapping definition.parent) row.refs) key → is_missing key ≡ false → is_offered mapping (Hub hub) window (key ∷ []) ≡ true
    key_offered hub key has there =
        let keyed : Contains (keys_at hub (feed_hubs mapping feed) row.refs) key = subst (λ hubs. Contains (keys_at hub hubs row.refs) key) (sym hubs_of_feed) has in
        let single : Contains (map (λ (key : Key). key ∷ []) (keys_at hub (feed_hubs mapping feed) row.refs)) (key ∷ []) = Contains-map (λ (key : Key). key ∷ []) (keys_at hub (feed_hubs mapping feed) row.refs) key keyed in
        offered (Hub hub) (key ∷ [])
        (Contains-flat_map (λ (row : NRow). map (λ key. key ∷ []) (keys_at hub (feed_hubs mapping feed) row.refs)) extract.rows row (key ∷ []) row_in single) (alone key there)

    -- the references of a link's row are offered to the link
    list_offered : (link : ℕ) → definition.parent ≡ Link link → list_all is_missing row.refs ≡ false → is_offered mapping (Link link) window row.refs ≡ true
    list_offered link parent there =
        let fed : is_fed_by (Link link) (slice_get mapping.feeds feed) ≡ true = rw (at, parent) (eq-eqb link link refl) in
        let all : Contains (all_refs extract.rows) row.refs = Contains-map (λ (row : NRow). row.refs) extract.rows row row_in in
        offered (Link link) row.refs (rw fed all) there

-- ---- a row's references

single_there : (key : Key) → list_all is_missing (key ∷ []) ≡ false → is_missing key ≡ false
single_there key e = search (rules)

-- the key at a hub's place is among the keys of the hub
pub key_at_first : (hub : ℕ) (hubs : List ℕ) (key : Key) (refs : List Key) → Contains (keys_at hub (hub ∷ hubs) (key ∷ refs)) key
key_at_first hub hubs key refs = rw (eq-eqb hub hub refl) (Contains-cons_here key (keys_at hub hubs refs))

module _ (mapping : Mapping) (sealed : List Window) (feed : ℕ) (definition : FeedDef) (at : slice_get mapping.feeds feed ≡ Some definition) (extract : Extract)
    (in_history : Contains (history feed (reverse sealed)) extract) (row : NRow) (row_in : Contains extract.rows row) where
  known_by : (parent : Parent) (refs : List Key) → ((window : Window) → extract_of feed window ≡ Some extract → is_offered mapping parent window refs ≡ true) → is_known mapping parent (reverse sealed) refs ≡ true
  known_by parent refs offers =
      let (window, member, is) = filter_map_member (extract_of feed) (reverse sealed) extract in_history in
      some_passes_at (λ window. is_offered mapping parent window refs) (reverse sealed) window member (offers window is)

  pub key_known : (hub : ℕ) (key : Key) → Contains (keys_at hub (parent_hubs mapping definition.parent) row.refs) key → is_missing key ≡ false → is_known mapping (Hub hub) (reverse sealed) (key ∷ []) ≡ true
  key_known hub key has there = known_by (Hub hub) (key ∷ []) (λ window is. key_offered mapping feed window extract is definition at row row_in hub key has there)

  -- what is brought to the feed's own hub or link
  pub row_known : HasForm mapping definition row → is_known mapping definition.parent (reverse sealed) row.refs ≡ true
  row_known form = by definition.parent refl
    where
      there : list_all is_missing row.refs ≡ false
      there = some_there definition row form.keyed

      by : (parent : Parent) → definition.parent ≡ parent → is_known mapping definition.parent (reverse sealed) row.refs ≡ true
      by (Hub hub) parent =
          let (key, single, fits) = one_key mapping hub row.refs (subst (λ (p : Parent). fit_hubs mapping (parent_hubs mapping p) row.refs ≡ true) parent form.fits) in
          let place : Contains (keys_at hub (parent_hubs mapping definition.parent) row.refs) key =
          subst (λ refs. Contains (keys_at hub (parent_hubs mapping definition.parent) refs) key) (sym single)
          (subst (λ (p : Parent). Contains (keys_at hub (parent_hubs mapping p) (key ∷ [])) key) (sym parent) (key_at_first hub [] key [])) in
          let known = key_known hub key place (single_there key (ap (list_all is_missing) (sym single) ∙ there)) in
          subst (λ (p : Parent). is_known mapping p (reverse sealed) row.refs ≡ true) (sym parent) (subst (λ refs. is_known mapping (Hub hub) (reverse sealed) refs ≡ true) (sym single) known)
      by (Link link) parent =
          subst (λ (p : Parent). is_known mapping p (reverse sealed) row.refs ≡ true) (sym parent)
          (known_by (Link link) row.refs (λ window is. list_offered mapping feed window extract is definition at row row_in link parent there))

-- ---- the lists that a feed delivers

module _ (mapping : Mapping) (hashes : Hashes) (sealed : List Window) (whole : list_all (is_window mapping) sealed ≡ true) (feed : ℕ) (definition : FeedDef) (at : slice_get mapping.feeds feed ≡ Some definition) where
  pub rows_valid : (extract : Extract) → Contains (history feed sealed) extract → AreRows mapping definition extract.rows
  rows_valid extract has =
      let (window, there, is) = filter_map_member (extract_of feed) sealed extract has in
      rows_at mapping window (passes_at (is_window mapping) sealed window whole there) feed extract is definition at

  pub delivered_known : (refs : List Key) → Contains (delivered_refs feed sealed) refs → is_known mapping definition.parent (reverse sealed) refs ≡ true
  delivered_known refs has =
      let (extract, member, within) = flat_map_member (λ (extract : Extract). all_refs extract.rows) (history feed sealed) refs has in
      let (row, row_in, same) = map_member (λ (row : NRow). row.refs) extract.rows refs within in
      subst (λ refs. is_known mapping definition.parent (reverse sealed) refs ≡ true) same
      (row_known mapping sealed feed definition at extract ((history_member feed sealed extract).1 member) row row_in ((rows_valid extract member).forms row row_in))

  -- where no two lists of its hub or link have one hash key, no two lists of the feed have
  pub lists_apart : IsApart hashes (hashed_refs mapping sealed definition.parent) → IsApart hashes (delivered_refs feed sealed)
  lists_apart apart a b a_in b_in = known_apart mapping hashes sealed definition.parent apart a b (delivered_known a a_in) (delivered_known b b_in)
