-- Deliveries to one hub or one link of the mapping.
use Rattle.std.specs.Prelude.{◌≡◌, ◌<◌, ℕ, ◌==◌, ◌&&◌, nat_le, Bool, true, false, List, [], Contains, length, slice_get}
use Rattle.std.specs.List.{list_all, zip}
use Rattle.dv_text.specs.declared.rows.Key.{Key}
use Rattle.dv_text.specs.Limits.{most_field_bytes}
use Rattle.dv_catalog.specs.declared.entries.Parent.{Parent}
use Rattle.dv_catalog.specs.declared.tables.TableId.{TableId}
use Rattle.dv_catalog.specs.declared.tables.TableId.TheVariants.{Hub as HubTable, Link as LinkTable, Sat, Multi, Status, Effect}
use Rattle.dv_catalog.specs.Entries.{Mapping}
use Rattle.dv_catalog.specs.Feeds.{parent_hubs, parts_of}
use Rattle.dv_catalog.specs.Mappings.{is_declared, is_hub, is_link}
use Rattle.dv_records.specs.declared.deliveries.Delivery.{Delivery}
use Rattle.dv_records.specs.Deliveries.{table_of}

-- a key of a hub's number of parts, each of at most 4,096 bytes
abbrev pub is_key_of : Mapping → ℕ → Key → Bool
is_key_of mapping hub key = (length key.parts == parts_of (slice_get mapping.hubs hub)) && list_all (λ part. nat_le (length part) most_field_bytes) key.parts

-- a key of each hub, in their order
abbrev pub are_keys_of : Mapping → List ℕ → List Key → Bool
are_keys_of mapping hubs refs = (length refs == length hubs) && list_all (λ (hub, key). is_key_of mapping hub key) (zip hubs refs)

-- a delivery to a hub or a link, of a key of each of its hubs, by a feed of the mapping
pub record IsItem (mapping : Mapping) (parent : Parent) (item : Delivery) : Type 0 where
  pub table : item.table ≡ table_of parent
  pub feed : item.feed < length mapping.feeds
  pub keys : are_keys_of mapping (parent_hubs mapping parent) item.refs ≡ true

-- deliveries to one hub or one link of the mapping, no two of one reference list
pub record AreItems (mapping : Mapping) (items : List Delivery) : Type 0 where
  pub parent : Parent
  pub declared : is_declared mapping parent ≡ true
  pub each : (item : Delivery) → Contains items item → IsItem mapping parent item
  pub apart : (a b : Delivery) → Contains items a → Contains items b → a.refs ≡ b.refs → a ≡ b

-- the table is that of a hub or a link of the mapping
abbrev pub is_parent_table : Mapping → TableId → Bool
is_parent_table mapping (HubTable hub) = is_hub mapping hub
is_parent_table mapping (LinkTable link) = is_link mapping link
is_parent_table mapping (Sat feed) = false
is_parent_table mapping (Multi feed) = false
is_parent_table mapping (Status feed) = false
is_parent_table mapping (Effect feed) = false
