-- What a window brings to a hub or a link is of a row of one of its extracts, which has the feed's form.
use Rattle.dv_store_rules.proofs.Vocabulary.{Bool, Contains, Contains-cons_cases, Contains-cons_here, Contains-cons_there, Contains-flat_map, Contains-map, Contains-nil, Delivery, FeedDef, HasForm, Hub, Key, Link, LinkDef, List, Mapping, NRow, None, Option, Parent, Some, Staged, Window, []}
use Rattle.dv_store_rules.proofs.Vocabulary.{all_refs, and_parts, ap, cond, deliveries, deliveries_member, eqb-true, false, false≢true, feed_hubs, filtered_members, first_offer-member, fit_hubs, fits_hub, flat_map, flat_map_member, inl, inr, is_declared, is_fed_by, is_hub, is_missing, is_offered}
use Rattle.dv_store_rules.proofs.Vocabulary.{is_offered-member, is_staged, is_valid, is_window, keys_at, length, link_hubs, list_all, ltb-true, map, map_member, not, not-true, offers, offers_of, parent_eq, parent_hubs, passes_at, refl, refs_from, slice_get, staged_rows, subst, sym, table_of}
use Rattle.dv_store_rules.proofs.Vocabulary.{true, valid_feed, valid_link, window_parts, ℕ, ◌<◌, ◌==◌, ◌∷◌, ◌≡◌}

-- ---- the keys of a hub among references

-- they stand at the hub's places
pub keys_of_hubs : (hub : ℕ) (hubs : List ℕ) (refs : List Key) (key : Key) → Contains (keys_at hub hubs refs) key → Contains hubs hub
keys_of_hubs hub [] refs key has = Contains-nil key has
keys_of_hubs hub (first ∷ hubs) [] key has = Contains-nil key has
keys_of_hubs hub (first ∷ hubs) (other ∷ refs) key has = by (first == hub) refl has (keys_of_hubs hub hubs refs key)
  where
    by : (b : Bool) → (first == hub) ≡ b → Contains (cond b (other ∷ keys_at hub hubs refs) (keys_at hub hubs refs)) key → (Contains (keys_at hub hubs refs) key → Contains hubs hub) → Contains (first ∷ hubs) hub
    by true e has later = subst (Contains (first ∷ hubs)) (eqb-true first hub e) (Contains-cons_here first hubs)
    by false e has later = Contains-cons_there first hubs hub (later has)

-- and fit the hub where all references fit theirs
pub key_fits : (mapping : Mapping) (hub : ℕ) (hubs : List ℕ) (refs : List Key) → fit_hubs mapping hubs refs ≡ true → (key : Key) → Contains (keys_at hub hubs refs) key → fits_hub mapping hub key ≡ true
key_fits mapping hub [] refs fits key has = Contains-nil key has
key_fits mapping hub (first ∷ hubs) [] fits key has = Contains-nil key has
key_fits mapping hub (first ∷ hubs) (other ∷ refs) fits key has =
    let (here, rest) = and_parts (fits_hub mapping first other) (fit_hubs mapping hubs refs) fits in
    by (first == hub) refl has here (key_fits mapping hub hubs refs rest key)
  where
    by : (b : Bool) → (first == hub) ≡ b → Contains (cond b (other ∷ keys_at hub hubs refs) (keys_at hub hubs refs)) key → fits_hub mapping first other ≡ true → (Contains (keys_at hub hubs refs) key → fits_hub mapping hub key ≡ true)
        → fits_hub mapping hub key ≡ true
    by true e has here later =
        elim (Contains-cons_cases other (keys_at hub hubs refs) key has) [
          | inl same ↦ subst (λ k. fits_hub mapping hub k ≡ true) same (subst (λ h. fits_hub mapping h other ≡ true) (eqb-true first hub e) here)
          | inr rest ↦ later rest
        ]
    by false e has here later = later has

-- ---- what is declared

module _ (mapping : Mapping) (valid : is_valid mapping ≡ true) where
  -- the hubs of a link are
  pub hub_of_link : (link hub : ℕ) → Contains (parent_hubs mapping (Link link)) hub → hub < length mapping.hubs
  hub_of_link link hub has = ltb-true hub (length mapping.hubs) (by (slice_get mapping.links link) refl has)
    where
      by : (o : Option LinkDef) → slice_get mapping.links link ≡ o → Contains (link_hubs o) hub → is_hub mapping hub ≡ true
      by None e has = Contains-nil hub has
      by (Some found) e has = passes_at (is_hub mapping) found.hubs hub (valid_link mapping valid link found e).in_range has

  module _ (feed : ℕ) (definition : FeedDef) (got : slice_get mapping.feeds feed ≡ Some definition) where
    -- so are those of a feed
    pub hub_declared : (hub : ℕ) → Contains (parent_hubs mapping definition.parent) hub → hub < length mapping.hubs
    hub_declared hub has = by definition.parent (valid_feed mapping valid feed definition got).declared has
      where
        by : (parent : Parent) → is_declared mapping parent ≡ true → Contains (parent_hubs mapping parent) hub → hub < length mapping.hubs
        by (Hub other) declared has =
            elim (Contains-cons_cases other [] hub has) [
              | inl same ↦ subst (λ h. h < length mapping.hubs) same (ltb-true other (length mapping.hubs) declared)
              | inr none ↦ Contains-nil hub none
            ]
        by (Link link) declared has = hub_of_link link hub has

    -- and its link
    pub link_declared : (link : ℕ) → definition.parent ≡ Link link → link < length mapping.links
    link_declared link is = ltb-true link (length mapping.links) (subst (λ (parent : Parent). is_declared mapping parent ≡ true) is (valid_feed mapping valid feed definition got).declared)

-- ---- offers

-- what an extract of a window brings, and isn't missing as a whole, is offered
pub offered_from : (mapping : Mapping) (parent : Parent) (window : Window) (staged : Staged) → Contains window.extracts staged → (refs : List Key) → Contains (refs_from mapping parent staged) refs → list_all is_missing refs ≡ false
    → is_offered mapping parent window refs ≡ true
offered_from mapping parent window staged there refs has present =
    let offer : Delivery = record { table = table_of parent; refs = refs; feed = staged.feed } in
    let made : Contains (offers_of mapping parent staged) offer = Contains-map (λ refs. record { table = table_of parent; refs = refs; feed = staged.feed }) (refs_from mapping parent staged) refs has in
    let all : Contains (flat_map (offers_of mapping parent) window.extracts) offer = Contains-flat_map (offers_of mapping parent) window.extracts staged offer there made in
    let within : Contains (offers mapping parent window) offer = (filtered_members (λ (offer : Delivery). not (list_all is_missing offer.refs)) (flat_map (offers_of mapping parent) window.extracts) offer).1 (all, ap not present) in
    is_offered-member mapping parent window refs (Contains-map (λ (offer : Delivery). offer.refs) (offers mapping parent window) offer within)

same_link : (link : ℕ) (parent : Parent) → parent_eq (Link link) parent ≡ true → parent ≡ Link link
same_link link (Hub hub) e = absurd (false≢true e)
same_link link (Link other) e = ap Link (sym (eqb-true link other e))

-- the references of a row that a feed's definition brings to a hub or a link
abbrev pub IsOfRow : Mapping → Parent → FeedDef → NRow → List Key → Type 0
IsOfRow mapping (Hub hub) definition row refs = (key : Key) × Contains (keys_at hub (parent_hubs mapping definition.parent) row.refs) key × (refs ≡ key ∷ [])
IsOfRow mapping (Link link) definition row refs = (definition.parent ≡ Link link) × (refs ≡ row.refs)

-- a delivery of a window: the extract that it is of, the feed, and the row
pub record IsFrom (mapping : Mapping) (parent : Parent) (window : Window) (item : Delivery) : Type 0 where
  pub staged : Staged
  pub staged_in : Contains window.extracts staged
  pub number : staged.feed ≡ item.feed
  pub definition : FeedDef
  pub got : slice_get mapping.feeds staged.feed ≡ Some definition
  pub row : NRow
  pub row_in : Contains staged.rows row
  pub form : HasForm mapping definition row
  pub of_row : IsOfRow mapping parent definition row item.refs
  pub present : list_all is_missing item.refs ≡ false

module _ (mapping : Mapping) (staged : Staged) (definition : FeedDef) (got : slice_get mapping.feeds staged.feed ≡ Some definition) where
  -- what an extract brings is of one of its rows
  brought_of : (parent : Parent) (refs : List Key) → Contains (refs_from mapping parent staged) refs → (row : NRow) × Contains staged.rows row × IsOfRow mapping parent definition row refs
  brought_of (Hub hub) refs has =
      let hubs : feed_hubs mapping staged.feed ≡ parent_hubs mapping definition.parent = rw got in
      let (row, row_in, keyed) = flat_map_member (λ (row : NRow). map (λ key. key ∷ []) (keys_at hub (feed_hubs mapping staged.feed) row.refs)) staged.rows refs has in
      let (key, key_in, single) = map_member (λ (key : Key). key ∷ []) (keys_at hub (feed_hubs mapping staged.feed) row.refs) refs keyed in
      (row, row_in, (key, subst (λ all. Contains (keys_at hub all row.refs) key) hubs key_in, sym single))
  brought_of (Link link) refs has = by (is_fed_by (Link link) (slice_get mapping.feeds staged.feed)) refl has
    where
      by : (b : Bool) → is_fed_by (Link link) (slice_get mapping.feeds staged.feed) ≡ b → Contains (cond b (all_refs staged.rows) []) refs → (row : NRow) × Contains staged.rows row × IsOfRow mapping (Link link) definition row refs
      by true e has =
          let (row, row_in, same) = map_member (λ (row : NRow). row.refs) staged.rows refs has in
          (row, row_in, (same_link link definition.parent (rw got at e), sym same))
      by false e has = Contains-nil refs has

  -- a key that a row refers to, and that isn't missing, is brought to its hub
  pub key_brought : (row : NRow) → Contains staged.rows row → (hub : ℕ) (key : Key) → Contains (keys_at hub (parent_hubs mapping definition.parent) row.refs) key → Contains (refs_from mapping (Hub hub) staged) (key ∷ [])
  key_brought row row_in hub key has =
      let hubs : feed_hubs mapping staged.feed ≡ parent_hubs mapping definition.parent = rw got in
      let keyed = subst (λ all. Contains (keys_at hub all row.refs) key) (sym hubs) has in
      Contains-flat_map (λ (row : NRow). map (λ key. key ∷ []) (keys_at hub (feed_hubs mapping staged.feed) row.refs)) staged.rows row (key ∷ []) row_in
      (Contains-map (λ (key : Key). key ∷ []) (keys_at hub (feed_hubs mapping staged.feed) row.refs) key keyed)

module _ (mapping : Mapping) (parent : Parent) (window : Window) (whole : is_window mapping window ≡ true) where
  -- each delivery is of one
  pub delivery_from : (item : Delivery) → Contains (deliveries mapping parent window) item → IsFrom mapping parent window item
  delivery_from item has =
      let offer = first_offer-member mapping parent window item.refs item ((deliveries_member mapping parent window item).0 has) in
      let (within, present) = (filtered_members (λ (offer : Delivery). not (list_all is_missing offer.refs)) (flat_map (offers_of mapping parent) window.extracts) item).0 offer in
      let (staged, there, offered) = flat_map_member (offers_of mapping parent) window.extracts item within in
      let (refs, brought, made) = map_member (λ refs. record { table = table_of parent; refs = refs; feed = staged.feed }) (refs_from mapping parent staged) item offered in
      let same : refs ≡ item.refs = ap (λ (d : Delivery). d.refs) made in
      let (definition, got, are) = staged_rows mapping staged (passes_at (is_staged mapping) window.extracts staged (window_parts mapping window whole).staged there) in
      let (row, row_in, of_row) = brought_of mapping staged definition got parent refs brought in
      record {
        staged = staged;
        staged_in = there;
        number = ap (λ (d : Delivery). d.feed) made;
        definition = definition;
        got = got;
        row = row;
        row_in = row_in;
        form = are.forms row row_in;
        of_row = subst (IsOfRow mapping parent definition row) same of_row;
        present = not-true (list_all is_missing item.refs) present;
      }
