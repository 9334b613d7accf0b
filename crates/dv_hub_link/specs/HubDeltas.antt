-- The rows that a window adds to a hub, told from the rows of its table and the deliveries of the window.
use Rattle.std.specs.Prelude.{◌≡◌, ◌<◌, ℕ, nat_le, true, List, [], ◌∷◌, ◌++◌, None, Result, Contains, length, reverse, slice_get}
use Rattle.std.specs.List.{list_all}
use Rattle.dv_text.specs.declared.rows.Key.{Key}
use Rattle.dv_text.specs.declared.rows.Window.{Window}
use Rattle.dv_text.specs.Keys.{Hashes}
use Rattle.dv_text.specs.Limits.{most_field_bytes}
use Rattle.dv_catalog.specs.declared.entries.Parent.TheVariants.{Hub}
use Rattle.dv_catalog.specs.declared.tables.TableId.TheVariants.{Hub as HubTable}
use Rattle.dv_catalog.specs.Entries.{Mapping}
use Rattle.dv_catalog.specs.Feeds.{parts_of}
use Rattle.dv_records.specs.declared.deliveries.Delivery.{Delivery}
use Rattle.dv_records.specs.declared.deliveries.DeltaFault.{DeltaFault}
use Rattle.dv_records.specs.declared.raw_rows.HubRow.{HubRow}
use Rattle.dv_records.specs.Batches.{appended}
use Rattle.dv_records.specs.Collisions.{collision_in}
use Rattle.dv_records.specs.Deliveries.{deliveries}
use Rattle.dv_records.specs.Deltas.{Answers, Hashed, brought}
use Rattle.dv_records.specs.History.{IsInLoadOrder}
use Rattle.dv_records.specs.HubPlaces.{hub_place}
use Rattle.dv_records.specs.Hubs.{hub_batch}
use Rattle.dv_hub_link.specs.KeyDeltas.{delta, lists_of}
use Rattle.dv_hub_link.specs.NewRows.{hub_row_of}

-- a delivery to a hub: of one key, of the hub's number of parts, each of at most 4,096 bytes, by a feed of the mapping
pub record IsHubItem (mapping : Mapping) (hub : ℕ) (item : Delivery) : Type 0 where
  pub table : item.table ≡ HubTable hub
  pub feed : item.feed < length mapping.feeds
  pub key : Key
  pub single : item.refs ≡ key ∷ []
  pub shape : length key.parts ≡ parts_of (slice_get mapping.hubs hub)
  pub short : list_all (λ part. nat_le (length part) most_field_bytes) key.parts ≡ true

-- deliveries to one hub of the mapping, no two of one key
pub record AreHubItems (mapping : Mapping) (items : List Delivery) : Type 0 where
  pub hub : ℕ
  pub declared : hub < length mapping.hubs
  pub each : (item : Delivery) → Contains items item → IsHubItem mapping hub item
  pub apart : (a b : Delivery) → Contains items a → Contains items b → a.refs ≡ b.refs → a ≡ b

-- the rows that deliveries under a load date add to a hub's rows, by hash key: of each delivered key that is not missing,
-- and whose hash key the table has not
abbrev pub hub_delta : Mapping → Hashes → ℕ → List HubRow → List Delivery → List HubRow
hub_delta mapping hashes load rows items = delta hub_place (hub_row_of mapping load) hashes rows items

-- the keys of rows, with the hash keys under which they stand
abbrev pub stored : List HubRow → List Hashed
stored rows = lists_of hub_place (λ row. row.key ∷ []) rows

-- all keys with their hash keys: the missing key and those of deliveries, and those of a hub's rows
abbrev pub hub_hashed : Mapping → Hashes → List HubRow → List Delivery → List Hashed
hub_hashed mapping hashes rows items = brought mapping hashes items ++ stored rows

-- a hub's rows are those of windows without a collision in the hub, and the deliveries are those of a later window
pub record IsNext (mapping : Mapping) (hashes : Hashes) (hub : ℕ) (older : List Window) (window : Window) (rows : List HubRow) (load : ℕ) (items : List Delivery) : Type 0 where
  pub in_order : IsInLoadOrder (reverse (window ∷ older))
  pub apart : collision_in mapping hashes (reverse older) (Hub hub) ≡ None
  pub table : rows ≡ appended (hub_batch mapping hashes hub) older
  pub loaded : load ≡ window.load
  pub offered : items ≡ deliveries mapping (Hub hub) window

-- over a hub's rows, the deliveries of a later window are answered by the window's batch, or by the collision in the hub
abbrev pub AnswersBatch : Mapping → Hashes → List HubRow → ℕ → List Delivery → Result (List HubRow) DeltaFault → Type 0
AnswersBatch mapping hashes rows load items result =
    (hub : ℕ) (older : List Window) (window : Window) → IsNext mapping hashes hub older window rows load items
    → Answers result (collision_in mapping hashes (reverse (window ∷ older)) (Hub hub)) (hub_batch mapping hashes hub older window)

-- a hub's rows hold the batch of the window that the deliveries are of, and no window collides in the hub
pub record IsHeld (mapping : Mapping) (hashes : Hashes) (hub : ℕ) (older : List Window) (window : Window) (rows : List HubRow) (items : List Delivery) : Type 0 where
  pub apart : collision_in mapping hashes (reverse (window ∷ older)) (Hub hub) ≡ None
  pub table : rows ≡ appended (hub_batch mapping hashes hub) (window ∷ older)
  pub offered : items ≡ deliveries mapping (Hub hub) window
