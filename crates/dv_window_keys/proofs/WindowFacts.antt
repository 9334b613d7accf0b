-- What the rows of a window of the mapping fit: what they are hashed in, and the tables of hubs and links.
use Rattle.dv_window_keys.proofs.Vocabulary.{AreRows, Bool, Contains, Contains-cons_cases, Contains-nil, Delivery, FeedDef, HasForm, Hub, HubDef, IsStrictlySortedBy, Key, Link, LinkDef, List, Mapping, NRow, None, Option, Parent, Some, Staged, Window, [], all_pass, all_pass_weaker, all_refs}
use Rattle.dv_window_keys.proofs.Vocabulary.{and_from, and_parts, ap, arith, attrs_fit, cond, deliveries, deliveries_member, eqb-true, false, feed_hubs, field_text, filtered_members, first_offer-member, fit_hubs, fits_hub, flat_map, flat_map_member, hubs_by, if◌then◌else◌, inl, inr, is_fed_by}
use Rattle.dv_window_keys.proofs.Vocabulary.{is_field, is_key_part, is_missing, is_staged, is_valid, is_window, key_form, key_part, keys_at, le-leb, length, link_hubs, list_all, map, map_member, nat_le, not, offers_of, parent_eq, parent_hubs, parts_of, passes_at, refl, refs_fit, refs_from}
use Rattle.dv_window_keys.proofs.Vocabulary.{row_cmp, slice_get, slice_get_within, staged_rows, subst, suc, sum_by, sym, table_of, texts_fit, true, valid_feed, valid_hub, valid_link, window_parts, ℕ, ◌+◌, ◌<◌, ◌==◌, ◌∙◌, ◌∷◌, ◌≡◌, ◌≤◌}

-- ---- texts and keys

short_parts : (parts : List (List ℕ)) → list_all is_key_part parts ≡ true → list_all (λ part. nat_le (length part) 4096) parts ≡ true
short_parts parts all = all_pass_weaker is_key_part (λ part. nat_le (length part) 4096) (λ part e. (key_part part e).1) parts all

short_texts : (texts : List (List ℕ)) → list_all is_field texts ≡ true → list_all (λ text. nat_le (length text) 4096) texts ≡ true
short_texts texts all = all_pass_weaker is_field (λ text. nat_le (length text) 4096) (λ text e. (field_text text e).1) texts all

pub record KeyParts (mapping : Mapping) (hub : ℕ) (key : Key) : Type 0 where
  pub shape : length key.parts ≡ parts_of (slice_get mapping.hubs hub)
  pub short : list_all (λ part. nat_le (length part) 4096) key.parts ≡ true

pub key_parts : (mapping : Mapping) (hub : ℕ) (key : Key) → fits_hub mapping hub key ≡ true → KeyParts mapping hub key
key_parts mapping hub key e =
    let (shape, parts) = key_form mapping hub key e in
    record { shape = shape; short = short_parts key.parts parts }

module _ (mapping : Mapping) (valid : is_valid mapping ≡ true) where
  few_parts : (hub : ℕ) → parts_of (slice_get mapping.hubs hub) ≤ 4
  few_parts hub = by (slice_get mapping.hubs hub) refl
    where
      by : (found : Option HubDef) → slice_get mapping.hubs hub ≡ found → parts_of found ≤ 4
      by None got = omega arith
      by (Some def) got = (valid_hub mapping valid hub def got).few_parts

  few_hubs : (parent : Parent) → length (parent_hubs mapping parent) ≤ 4
  few_hubs (Hub hub) = omega arith
  few_hubs (Link link) = by (slice_get mapping.links link) refl
    where
      by : (found : Option LinkDef) → slice_get mapping.links link ≡ found → length (link_hubs found) ≤ 4
      by None got = omega arith
      by (Some def) got = (valid_link mapping valid link def got).few_hubs

  fitting_refs : (hubs : List ℕ) (refs : List Key) → fit_hubs mapping hubs refs ≡ true → (length refs ≡ length hubs) × (list_all (λ key. texts_fit 4 key.parts) refs ≡ true)
  fitting_refs [] [] e = (refl, refl)
  fitting_refs [] (key ∷ refs) e = let no : false ≡ true = e in cc
  fitting_refs (hub ∷ hubs) [] e = let no : false ≡ true = e in cc
  fitting_refs (hub ∷ hubs) (key ∷ refs) e =
      let (here, behind) = and_parts (fits_hub mapping hub key) (fit_hubs mapping hubs refs) e in
      let parts = key_parts mapping hub key here in
      let (as_many, rest) = fitting_refs hubs refs behind in
      let few : nat_le (length key.parts) 4 ≡ true = le-leb (length key.parts) 4 (omega (arith, parts.shape, few_parts hub)) in
      (ap suc as_many, and_from _ _ (and_from _ _ few parts.short) rest)

  pub parent_refs_fit : (parent : Parent) (refs : List Key) → fit_hubs mapping (parent_hubs mapping parent) refs ≡ true → refs_fit refs ≡ true
  parent_refs_fit parent refs fits =
      let (as_many, all) = fitting_refs (parent_hubs mapping parent) refs fits in
      and_from _ _ (le-leb (length refs) 4 (omega (arith, as_many, few_hubs parent))) all

  row_attrs_fit : (i : ℕ) (feed : FeedDef) → slice_get mapping.feeds i ≡ Some feed → (row : NRow) → HasForm mapping feed row → attrs_fit row.attrs ≡ true
  row_attrs_fit i feed got row form =
      let few : length row.attrs ≤ 32 = fewer (sum_by length feed.keys) (length feed.sub) (length feed.attrs) (length row.attrs) (valid_feed mapping valid i feed got).few_columns form.attributes in
      and_from _ _ (le-leb (length row.attrs) 32 few) (short_texts row.attrs form.attr_fields)
    where
      fewer : (a b c d : ℕ) → a + b + c ≤ 32 → d ≡ c → d ≤ 32
      fewer a b c d h e = omega (arith, h, e)

-- an extract that stands in a window has the rows of a feed of the mapping
pub rows_of_staged : (mapping : Mapping) (window : Window) → is_window mapping window ≡ true → (staged : Staged) → Contains window.extracts staged
    → (definition : FeedDef) × (slice_get mapping.feeds staged.feed ≡ Some definition) × AreRows mapping definition staged.rows
rows_of_staged mapping window e staged has = staged_rows mapping staged (passes_at (is_staged mapping) window.extracts staged (window_parts mapping window e).staged has)

-- the references and the attributes of an extract's rows fit what they are hashed in
module _ (mapping : Mapping) (valid : is_valid mapping ≡ true) (window : Window) (e : is_window mapping window ≡ true) (staged : Staged) (has : Contains window.extracts staged) where
  pub staged_refs_fit : list_all (λ row. refs_fit row.refs) staged.rows ≡ true
  staged_refs_fit =
      let (feed, got, are) = rows_of_staged mapping window e staged has in
      all_pass (λ row. refs_fit row.refs) staged.rows (λ row row_in. parent_refs_fit mapping valid feed.parent row.refs (are.forms row row_in).fits)

  pub staged_attrs_fit : list_all (λ row. attrs_fit row.attrs) staged.rows ≡ true
  staged_attrs_fit =
      let (feed, got, are) = rows_of_staged mapping window e staged has in
      all_pass (λ row. attrs_fit row.attrs) staged.rows (λ row row_in. row_attrs_fit mapping valid staged.feed feed got row (are.forms row row_in))

  pub staged_ascend : IsStrictlySortedBy row_cmp staged.rows
  staged_ascend = let (feed, got, are) = rows_of_staged mapping window e staged has in are.ascending

-- ---- deliveries to a hub

-- a key that stands at a hub fits it
placed_key : (mapping : Mapping) (hub : ℕ) (hubs : List ℕ) (refs : List Key) (key : Key) → fit_hubs mapping hubs refs ≡ true → Contains (keys_at hub hubs refs) key → fits_hub mapping hub key ≡ true
placed_key mapping hub [] refs key e has = Contains-nil key has
placed_key mapping hub (h ∷ hubs) [] key e has = Contains-nil key has
placed_key mapping hub (h ∷ hubs) (first ∷ refs) key e has =
    let (here, behind) = and_parts (fits_hub mapping h first) (fit_hubs mapping hubs refs) e in
    by (h == hub) refl here (placed_key mapping hub hubs refs key behind) has
  where
    by : (b : Bool) → (h == hub) ≡ b → fits_hub mapping h first ≡ true → (Contains (keys_at hub hubs refs) key → fits_hub mapping hub key ≡ true)
        → Contains (cond b (first ∷ keys_at hub hubs refs) (keys_at hub hubs refs)) key → fits_hub mapping hub key ≡ true
    by false t here rest has = rest has
    by true t here rest has =
        elim (Contains-cons_cases first (keys_at hub hubs refs) key has) [
          | inl same ↦ ap (λ h. fits_hub mapping h key) (sym (eqb-true h hub t)) ∙ ap (fits_hub mapping h) (sym same) ∙ here
          | inr more ↦ rest more
        ]

module _ (mapping : Mapping) (window : Window) (is : is_window mapping window ≡ true) where
  -- an offer is one of an extract's rows
  record OfferParts (parent : Parent) (item : Delivery) : Type 0 where
    staged : Staged
    member : Contains window.extracts staged
    brought : Contains (refs_from mapping parent staged) item.refs
    table : item.table ≡ table_of parent
    feed : item.feed ≡ staged.feed

  offer_parts : (parent : Parent) (item : Delivery) → Contains (deliveries mapping parent window) item → OfferParts parent item
  offer_parts parent item has =
      let offered = first_offer-member mapping parent window item.refs item ((deliveries_member mapping parent window item).0 has) in
      let (within, kept) = (filtered_members (λ (offer : Delivery). not (list_all is_missing offer.refs)) (flat_map (offers_of mapping parent) window.extracts) item).0 offered in
      let (staged, member, of_staged) = flat_map_member (offers_of mapping parent) window.extracts item within in
      let (refs, brought, made) = map_member (λ refs. record { table = table_of parent; refs = refs; feed = staged.feed }) (refs_from mapping parent staged) item of_staged in
      record {
        staged = staged;
        member = member;
        brought = subst (Contains (refs_from mapping parent staged)) (ap (λ (d : Delivery). d.refs) made) brought;
        table = sym (ap (λ (d : Delivery). d.table) made);
        feed = sym (ap (λ (d : Delivery). d.feed) made);
      }

  -- a delivery: to the table of the hub or the link, by a feed of the mapping, of a key that fits each of its hubs
  pub record IsDelivered (parent : Parent) (item : Delivery) : Type 0 where
    pub table : item.table ≡ table_of parent
    pub feed : item.feed < length mapping.feeds
    pub fits : fit_hubs mapping (parent_hubs mapping parent) item.refs ≡ true

  -- what an extract brings fits the hubs
  brought_fits : (parent : Parent) (staged : Staged) (feed : FeedDef) → slice_get mapping.feeds staged.feed ≡ Some feed → AreRows mapping feed staged.rows → (refs : List Key) → Contains (refs_from mapping parent staged) refs → fit_hubs mapping (parent_hubs mapping parent) refs ≡ true
  brought_fits (Hub hub) staged feed got are refs has =
      let (row, row_in, keyed) = flat_map_member (λ (row : NRow). map (λ key. key ∷ []) (keys_at hub (feed_hubs mapping staged.feed) row.refs)) staged.rows refs has in
      let (key, key_in, single) = map_member (λ (key : Key). key ∷ []) (keys_at hub (feed_hubs mapping staged.feed) row.refs) refs keyed in
      let same : feed_hubs mapping staged.feed ≡ parent_hubs mapping feed.parent = ap (hubs_by mapping) got in
      let placed = subst (λ (hubs : List ℕ). Contains (keys_at hub hubs row.refs) key) same key_in in
      let fits = placed_key mapping hub (parent_hubs mapping feed.parent) row.refs key (are.forms row row_in).fits placed in
      ap (fit_hubs mapping (hub ∷ [])) (sym single) ∙ and_from _ _ fits refl
  brought_fits (Link link) staged feed got are refs has =
      by (is_fed_by (Link link) (slice_get mapping.feeds staged.feed)) refl has
    where
      of_link : (parent : Parent) → parent_eq (Link link) parent ≡ true → parent ≡ Link link
      of_link (Hub hub) e = let no : false ≡ true = e in cc
      of_link (Link other) e = ap Link (sym (eqb-true link other e))

      by : (fed : Bool) → is_fed_by (Link link) (slice_get mapping.feeds staged.feed) ≡ fed → Contains (if fed then all_refs staged.rows else []) refs → fit_hubs mapping (parent_hubs mapping (Link link)) refs ≡ true
      by false e within = Contains-nil refs within
      by true e within =
          let (row, row_in, is) = map_member (λ (row : NRow). row.refs) staged.rows refs within in
          let fed : parent_eq (Link link) feed.parent ≡ true = ap (is_fed_by (Link link)) (sym got) ∙ e in
          ap (fit_hubs mapping (parent_hubs mapping (Link link))) (sym is)
          ∙ ap (λ parent. fit_hubs mapping (parent_hubs mapping parent) row.refs) (sym (of_link feed.parent fed))
          ∙ (are.forms row row_in).fits

  -- what a window delivers to a hub or a link
  pub delivered : (parent : Parent) (item : Delivery) → Contains (deliveries mapping parent window) item → IsDelivered parent item
  delivered parent item has =
      let offer = offer_parts parent item has in
      let (feed, got, are) = rows_of_staged mapping window is offer.staged offer.member in
      record {
        table = offer.table;
        feed = subst (λ n. n < length mapping.feeds) (sym offer.feed) (slice_get_within mapping.feeds offer.staged.feed feed got);
        fits = brought_fits parent offer.staged feed got are item.refs offer.brought;
      }
