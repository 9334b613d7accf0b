-- Deliveries to a hub.
use Rattle.dv_hub_link.proofs.Vocabulary.{AreHubItems, AreItems, Delivery, Hub, IsHubItem, IsItem, List, Mapping, [], and_from, are_keys_of, eq-eqb, is_key_of, length, list_all, lt-ltb, nat_le, parts_of, refl, slice_get, subst, sym, true, ℕ, ◌==◌, ◌∷◌, ◌≡◌}

item_is : (mapping : Mapping) (hub : ℕ) (item : Delivery) → IsHubItem mapping hub item → IsItem mapping (Hub hub) item
item_is mapping hub item is = record { table = is.table; feed = is.feed; keys = subst (λ r. are_keys_of mapping (hub ∷ []) r ≡ true) (sym is.single) (and_from (is_key_of mapping hub is.key) true key_is refl) }
  where
    key_is : is_key_of mapping hub is.key ≡ true
    key_is = and_from (length is.key.parts == parts_of (slice_get mapping.hubs hub)) (list_all (λ part. nat_le (length part) 4096) is.key.parts) (subst (λ n. (length is.key.parts == n) ≡ true) is.shape (eq-eqb _ _ refl)) is.short

pub are_items : (mapping : Mapping) (items : List Delivery) → AreHubItems mapping items → AreItems mapping items
are_items mapping items are = record { parent = Hub are.hub; declared = lt-ltb are.hub (length mapping.hubs) are.declared; each = λ item has. item_is mapping are.hub item (are.each item has); apart = are.apart }
