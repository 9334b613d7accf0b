-- The lists of deliveries can be hashed, and their tables, hubs and feeds are in the mapping.
use Rattle.dv_hub_link.proofs.Vocabulary.{AreItems, Bool, Contains, Delivery, Hashed, HashedList, Hashes, Hub, HubDef, IsItem, Key, Link, LinkDef, List, Mapping, None, Option, Parent, Some, [], all_pass, all_pass_replicate, and_from, and_parts, ap, arith, batch_made, eq-eqb, eqb-true}
use Rattle.dv_hub_link.proofs.Vocabulary.{has_name_form, hashed_cmp, hashed_item, is_declared, is_key_of, is_missing, is_parent_table, is_valid, is_valid_hub, is_within, le-leb, leb-true, length, length-map, length-replicate, list_all, lt-ltb, map, missing_in, missing_key, missing_refs, nat_le}
use Rattle.dv_hub_link.proofs.Vocabulary.{nat_lt, new_item, new_lists, parent_hubs, parts_of, passes_got, refl, refs_fit, slice_get, subst, table_of, texts_fit, true, valid_link, valid_parts, zip, ℕ, ◌==◌, ◌∙◌, ◌∷◌, ◌≡◌, ◌≤◌}
use Rattle.dv_hub_link.proofs.Batches.{new_of}

-- what is missing in the table of a parent
pub missing_table : (mapping : Mapping) (parent : Parent) → missing_in mapping (table_of parent) ≡ missing_refs mapping parent
missing_table mapping (Hub hub) = refl
missing_table mapping (Link link) = refl

declared_table : (mapping : Mapping) (parent : Parent) → is_declared mapping parent ≡ true → is_parent_table mapping (table_of parent) ≡ true
declared_table mapping (Hub hub) declared = declared
declared_table mapping (Link link) declared = declared

-- a missing key of each hub is a key of it, and missing
missing_keys : (mapping : Mapping) (hubs : List ℕ) → list_all (λ (hub, key). is_key_of mapping hub key) (zip hubs (map (missing_key mapping) hubs)) ≡ true
missing_keys mapping [] = refl
missing_keys mapping (hub ∷ hubs) =
    let parts = parts_of (slice_get mapping.hubs hub) in
    and_from _ _ (and_from _ _ (eq-eqb _ _ (length-replicate parts [])) (all_pass_replicate (λ (part : List ℕ). nat_le (length part) 4096) parts [] refl)) (missing_keys mapping hubs)

pub all_missing : (mapping : Mapping) (hubs : List ℕ) → list_all is_missing (map (missing_key mapping) hubs) ≡ true
all_missing mapping [] = refl
all_missing mapping (hub ∷ hubs) = and_from _ _ (all_pass_replicate (λ (part : List ℕ). length part == 0) (parts_of (slice_get mapping.hubs hub)) [] refl) (all_missing mapping hubs)

module _ (mapping : Mapping) (valid : is_valid mapping ≡ true) where
  -- a hub's keys have at most four parts
  hub_few : (hub : ℕ) → parts_of (slice_get mapping.hubs hub) ≤ 4
  hub_few hub = by (slice_get mapping.hubs hub) refl
    where
      by : (o : Option HubDef) → slice_get mapping.hubs hub ≡ o → parts_of (slice_get mapping.hubs hub) ≤ 4
      by None e = rw e (omega arith)
      by (Some def) e =
          rw e
          (leb-true def.parts 4 (and_parts (nat_le 1 def.parts) (nat_le def.parts 4) (and_parts (has_name_form def.name) (is_within 1 4 def.parts) (passes_got is_valid_hub mapping.hubs hub def (valid_parts mapping valid).hubs e)).1).1)

  -- a hub or a link has at most four hubs
  parent_few : (parent : Parent) → length (parent_hubs mapping parent) ≤ 4
  parent_few (Hub hub) = omega arith
  parent_few (Link link) = by (slice_get mapping.links link) refl
    where
      by : (o : Option LinkDef) → slice_get mapping.links link ≡ o → length (parent_hubs mapping (Link link)) ≤ 4
      by (Some def) e = let few = (valid_link mapping valid link def e).few_hubs in rw e few
      by None e = rw e (omega arith)

  -- keys of hubs fit
  keys_fit : (hubs : List ℕ) (refs : List Key) → length refs ≡ length hubs → list_all (λ (hub, key). is_key_of mapping hub key) (zip hubs refs) ≡ true → list_all (λ key. texts_fit 4 key.parts) refs ≡ true
  keys_fit hubs [] count e = refl
  keys_fit [] (key ∷ refs) count e = absurd (omega (arith, count))
  keys_fit (hub ∷ hubs) (key ∷ refs) count e =
      let parts = and_parts (is_key_of mapping hub key) (list_all (λ (h, k). is_key_of mapping h k) (zip hubs refs)) e in
      let here = and_parts _ _ parts.0 in
      let same = eqb-true (length key.parts) (parts_of (slice_get mapping.hubs hub)) here.0 in
      let few = hub_few hub in
      and_from _ _ (and_from _ _ (le-leb (length key.parts) 4 (omega (arith, same, few))) here.1) (keys_fit hubs refs (omega (arith, count)) parts.1)

  lists_fit : (parent : Parent) (refs : List Key) → length refs ≡ length (parent_hubs mapping parent) → list_all (λ (hub, key). is_key_of mapping hub key) (zip (parent_hubs mapping parent) refs) ≡ true → refs_fit refs ≡ true
  lists_fit parent refs count keys = let few = parent_few parent in and_from (nat_le (length refs) 4) _ (le-leb (length refs) 4 (omega (arith, few, count))) (keys_fit (parent_hubs mapping parent) refs count keys)

  item_fits : (parent : Parent) (item : Delivery) → IsItem mapping parent item → refs_fit item.refs ≡ true
  item_fits parent item is = let parts = and_parts _ _ is.keys in lists_fit parent item.refs (eqb-true _ _ parts.0) parts.1

  module _ (items : List Delivery) (are : AreItems mapping items) (first : Delivery) (member : Contains items first) where
    missing_is : missing_in mapping first.table ≡ map (missing_key mapping) (parent_hubs mapping are.parent)
    missing_is = ap (missing_in mapping) (are.each first member).table ∙ missing_table mapping are.parent

    pub table_known : is_parent_table mapping first.table ≡ true
    table_known = ap (is_parent_table mapping) (are.each first member).table ∙ declared_table mapping are.parent are.declared

    pub missing_fits : refs_fit (missing_in mapping first.table) ≡ true
    missing_fits =
        ap refs_fit missing_is
        ∙ lists_fit are.parent (map (missing_key mapping) (parent_hubs mapping are.parent)) (length-map (parent_hubs mapping are.parent) (missing_key mapping)) (missing_keys mapping (parent_hubs mapping are.parent))

    pub missing_none : list_all is_missing (missing_in mapping first.table) ≡ true
    missing_none = ap (list_all is_missing) missing_is ∙ all_missing mapping (parent_hubs mapping are.parent)

  -- ---- the new lists

  module _ (hashes : Hashes) (held : List Hashed) (items : List Delivery) (are : AreItems mapping items) where
    new_pass : (p : HashedList → Bool) → ((item : Delivery) → Contains items item → p (hashed_item hashes item) ≡ true) → list_all p (new_lists hashes held items) ≡ true
    new_pass p each = all_pass p (new_lists hashes held items) (λ h has.
        let (item, member, made) = batch_made hashed_cmp (new_item hashes held) items h has in
        subst (λ list. p list ≡ true) (new_of hashes held item h made).0 (each item member))

    pub new_feeds : list_all (λ list. nat_lt list.feed (length mapping.feeds)) (new_lists hashes held items) ≡ true
    new_feeds = new_pass _ (λ item member. lt-ltb item.feed (length mapping.feeds) (are.each item member).feed)

    pub new_fit : list_all (λ list. refs_fit list.refs) (new_lists hashes held items) ≡ true
    new_fit = new_pass _ (λ item member. item_fits are.parent item (are.each item member))
