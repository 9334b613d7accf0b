-- Over the table of a link after windows, the rows that a later window adds are its batch, and what clashes is what
-- collides.
use Rattle.std.specs.Prelude.{◌≡◌, ℕ, List, ◌∷◌, None, Some, reverse}
use Rattle.dv_text.specs.declared.rows.Window.{Window}
use Rattle.dv_text.specs.Keys.{Hashes}
use Rattle.dv_catalog.specs.declared.entries.Parent.TheVariants.{Link}
use Rattle.dv_catalog.specs.Entries.{Mapping}
use Rattle.dv_records.specs.declared.deliveries.Delivery.{Delivery}
use Rattle.dv_records.specs.declared.raw_rows.LinkRow.{LinkRow}
use Rattle.dv_records.specs.Collisions.{Pair, collision_in}
use Rattle.dv_records.specs.Deltas.{HasNoClash, IsLeastClash}
use Rattle.dv_records.specs.HubNames.{HubName}
use Rattle.dv_records.specs.Hubs.{link_batch}
use Rattle.dv_hub_link.specs.LinkDeltas.{IsNext, link_delta, link_hashed}

-- where the windows don't collide in the link, the delta is the batch
abbrev pub LinkDeltaIsBatch : Type 0
LinkDeltaIsBatch =
    (mapping : Mapping) (hashes : Hashes) (names : List HubName) (link : ℕ) (older : List Window) (window : Window) (rows : List LinkRow) (load : ℕ) (items : List Delivery)
    → IsNext mapping hashes names link older window rows load items
    → collision_in mapping hashes (reverse (window ∷ older)) (Link link) ≡ None
    → link_delta mapping hashes load rows items ≡ link_batch mapping hashes link older window

-- the least clash is the collision
abbrev pub LinkClashCollides : Type 0
LinkClashCollides =
    (mapping : Mapping) (hashes : Hashes) (names : List HubName) (link : ℕ) (older : List Window) (window : Window) (rows : List LinkRow) (load : ℕ) (items : List Delivery) (pair : Pair)
    → IsNext mapping hashes names link older window rows load items
    → IsLeastClash (link_hashed mapping hashes names rows items) pair
    → collision_in mapping hashes (reverse (window ∷ older)) (Link link) ≡ Some pair

-- and without a clash there is no collision
abbrev pub LinkApartIsFree : Type 0
LinkApartIsFree =
    (mapping : Mapping) (hashes : Hashes) (names : List HubName) (link : ℕ) (older : List Window) (window : Window) (rows : List LinkRow) (load : ℕ) (items : List Delivery)
    → IsNext mapping hashes names link older window rows load items
    → HasNoClash (link_hashed mapping hashes names rows items)
    → collision_in mapping hashes (reverse (window ∷ older)) (Link link) ≡ None
