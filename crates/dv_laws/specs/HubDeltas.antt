-- Over the table of a hub after windows, the rows that a later window adds are its batch, and what clashes is what
-- collides.
use Rattle.std.specs.Prelude.{◌≡◌, ℕ, List, ◌∷◌, None, Some, reverse}
use Rattle.dv_text.specs.declared.rows.Window.{Window}
use Rattle.dv_text.specs.Keys.{Hashes}
use Rattle.dv_catalog.specs.declared.entries.Parent.TheVariants.{Hub}
use Rattle.dv_catalog.specs.Entries.{Mapping}
use Rattle.dv_records.specs.declared.deliveries.Delivery.{Delivery}
use Rattle.dv_records.specs.declared.raw_rows.HubRow.{HubRow}
use Rattle.dv_records.specs.Collisions.{Pair, collision_in}
use Rattle.dv_records.specs.Deltas.{HasNoClash, IsLeastClash}
use Rattle.dv_records.specs.Hubs.{hub_batch}
use Rattle.dv_hub_link.specs.HubDeltas.{IsNext, hub_delta, hub_hashed}

-- where the windows don't collide in the hub, the delta is the batch
abbrev pub HubDeltaIsBatch : Type 0
HubDeltaIsBatch =
    (mapping : Mapping) (hashes : Hashes) (hub : ℕ) (older : List Window) (window : Window) (rows : List HubRow) (load : ℕ) (items : List Delivery)
    → IsNext mapping hashes hub older window rows load items
    → collision_in mapping hashes (reverse (window ∷ older)) (Hub hub) ≡ None
    → hub_delta mapping hashes load rows items ≡ hub_batch mapping hashes hub older window

-- the least clash is the collision
abbrev pub HubClashCollides : Type 0
HubClashCollides =
    (mapping : Mapping) (hashes : Hashes) (hub : ℕ) (older : List Window) (window : Window) (rows : List HubRow) (load : ℕ) (items : List Delivery) (pair : Pair)
    → IsNext mapping hashes hub older window rows load items
    → IsLeastClash (hub_hashed mapping hashes rows items) pair
    → collision_in mapping hashes (reverse (window ∷ older)) (Hub hub) ≡ Some pair

-- and without a clash there is no collision
abbrev pub HubApartIsFree : Type 0
HubApartIsFree =
    (mapping : Mapping) (hashes : Hashes) (hub : ℕ) (older : List Window) (window : Window) (rows : List HubRow) (load : ℕ) (items : List Delivery)
    → IsNext mapping hashes hub older window rows load items
    → HasNoClash (hub_hashed mapping hashes rows items)
    → collision_in mapping hashes (reverse (window ∷ older)) (Hub hub) ≡ None
