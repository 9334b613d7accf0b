-- What the functions give, said without them. Of each kind of batch: a list is the batch exactly where it ascends
-- strictly, has only such rows, and has each of them, provided that no two of the lists that the rows are made of have
-- one hash key.
use Rattle.std.specs.Prelude.{◌≡◌, ◌↔◌, ◌⊎◌, ℕ, ◌+◌, ◌<◌, ◌≤◌, Bool, true, false, List, ◌++◌, Some, None, All, Contains}
use Rattle.dv_text.specs.declared.rows.Window.{Window}
use Rattle.dv_text.specs.Keys.{Hashes}
use Rattle.dv_text.specs.Stamps.{open_end}
use Rattle.dv_catalog.specs.declared.entries.Parent.{Parent}
use Rattle.dv_catalog.specs.declared.entries.Parent.TheVariants.{Hub, Link}
use Rattle.dv_catalog.specs.Entries.{Mapping}
use Rattle.dv_records.specs.declared.mart_rows.PeriodRow.{PeriodRow}
use Rattle.dv_records.specs.declared.raw_rows.EffectRow.{EffectRow}
use Rattle.dv_records.specs.declared.raw_rows.HubRow.{HubRow}
use Rattle.dv_records.specs.declared.raw_rows.LinkRow.{LinkRow}
use Rattle.dv_records.specs.declared.raw_rows.MultiRow.{MultiRow}
use Rattle.dv_records.specs.declared.raw_rows.SatRow.{SatRow}
use Rattle.dv_records.specs.declared.raw_rows.StatusRow.{StatusRow}
use Rattle.dv_records.specs.Collisions.{collision, collision_in, hashed_refs, parents, IsApart, IsLeastPair, Pair}
use Rattle.dv_records.specs.Deliveries.{offered_refs}
use Rattle.dv_records.specs.Effects.{effect_batch, IsEffectBatch}
use Rattle.dv_records.specs.History.{Extract, all_refs, content, delivers, newest_rows, IsInLoadOrder}
use Rattle.dv_records.specs.Hubs.{hub_batch, link_batch, IsHubBatch, IsLinkBatch}
use Rattle.dv_records.specs.Marts.{period_mart}
use Rattle.dv_records.specs.Satellites.{multi_batch, sat_batch, IsMultiBatch, IsOnePerList, IsOnePerSub, IsSatBatch}
use Rattle.dv_records.specs.Statuses.{status_batch, IsStatusBatch}

-- ---- batches

-- a hub's batch
abbrev pub HubTied : Type 0
HubTied =
    (mapping : Mapping) (hashes : Hashes) (hub : ℕ) (older : List Window) (window : Window)
    → IsApart hashes (offered_refs mapping (Hub hub) window)
    → (rows : List HubRow) → (rows ≡ hub_batch mapping hashes hub older window) ↔ IsHubBatch mapping hashes hub older window rows

-- a link's batch
abbrev pub LinkTied : Type 0
LinkTied =
    (mapping : Mapping) (hashes : Hashes) (link : ℕ) (older : List Window) (window : Window)
    → IsApart hashes (offered_refs mapping (Link link) window)
    → (rows : List LinkRow) → (rows ≡ link_batch mapping hashes link older window) ↔ IsLinkBatch mapping hashes link older window rows

-- a satellite's batch
abbrev pub SatTied : Type 0
SatTied =
    (hashes : Hashes) (source : List ℕ) (older : List Extract) (newest : Extract)
    → IsOnePerList newest.rows → IsApart hashes (all_refs newest.rows)
    → (rows : List SatRow) → (rows ≡ sat_batch hashes source older newest) ↔ IsSatBatch hashes source older newest rows

-- a multi-active satellite's batch
abbrev pub MultiTied : Type 0
MultiTied =
    (hashes : Hashes) (source : List ℕ) (older : List Extract) (newest : Extract)
    → IsOnePerSub newest.rows → IsApart hashes (all_refs newest.rows)
    → (rows : List MultiRow) → (rows ≡ multi_batch hashes source older newest) ↔ IsMultiBatch hashes source older newest rows

-- a status batch
abbrev pub StatusTied : Type 0
StatusTied =
    (hashes : Hashes) (source : List ℕ) (older : List Extract) (newest : Extract)
    → IsApart hashes (all_refs (newest_rows older) ++ all_refs newest.rows)
    → (rows : List StatusRow) → (rows ≡ status_batch hashes source older newest) ↔ IsStatusBatch hashes source older newest rows

-- an effectivity batch
abbrev pub EffectTied : Type 0
EffectTied =
    (hashes : Hashes) (source : List ℕ) (older : List Extract) (newest : Extract)
    → IsApart hashes (all_refs (newest_rows older) ++ all_refs newest.rows)
    → (rows : List EffectRow) → (rows ≡ effect_batch hashes source older newest) ↔ IsEffectBatch hashes source older newest rows

-- ---- collisions

-- a hub or a link has no collision exactly where no two of its lists have one hash key
abbrev pub CollisionFree : Type 0
CollisionFree =
    (mapping : Mapping) (hashes : Hashes) (windows : List Window) (parent : Parent)
    → (collision_in mapping hashes windows parent ≡ None) ↔ IsApart hashes (hashed_refs mapping windows parent)

-- and a pair is its collision exactly where it is the least pair of different lists with one hash key
abbrev pub CollisionTied : Type 0
CollisionTied =
    (mapping : Mapping) (hashes : Hashes) (windows : List Window) (parent : Parent) (pair : Pair)
    → (collision_in mapping hashes windows parent ≡ Some pair) ↔ IsLeastPair hashes (hashed_refs mapping windows parent) pair

-- windows have no collision exactly where no hub and no link has one
abbrev pub NoneCollide : Type 0
NoneCollide =
    (mapping : Mapping) (hashes : Hashes) (windows : List Window)
    → (collision mapping hashes windows ≡ None) ↔ All (λ parent. collision_in mapping hashes windows parent ≡ None) (parents mapping)

-- ---- periods

-- what is present from a date on: not just before it, and at each date from it up to the last one
pub record IsOpenPeriod (present : ℕ → Bool) (date begin : ℕ) : Type 0 where
  pub not_later : begin ≤ date
  pub before : (t : ℕ) → t + 1 ≡ begin → present t ≡ false
  pub during : (t : ℕ) → begin ≤ t → t ≤ date → present t ≡ true

-- what is present from a date to another: not just before the first, at each date from it to the second, and not at the
-- second
pub record IsEndedPeriod (present : ℕ → Bool) (date begin end : ℕ) : Type 0 where
  pub not_later : end ≤ date
  pub ordered : begin < end
  pub before : (t : ℕ) → t + 1 ≡ begin → present t ≡ false
  pub during : (t : ℕ) → begin ≤ t → t < end → present t ≡ true
  pub after : present end ≡ false

-- the one with the open end, or the other
abbrev pub IsPeriod : (ℕ → Bool) → ℕ → ℕ → ℕ → Type 0
IsPeriod present date begin end = ((end ≡ open_end) × IsOpenPeriod present date begin) ⊎ IsEndedPeriod present date begin end

-- a period mart has a row exactly for each longest period, up to its date, in which the feed's content delivers a
-- reference list
abbrev pub PeriodsTied : Type 0
PeriodsTied =
    (feed : ℕ) (sealed : List Window) (date : ℕ) (row : PeriodRow)
    → IsInLoadOrder sealed
    → Contains (period_mart sealed feed date) row ↔ IsPeriod (λ t. delivers (content feed sealed t) row.refs) date row.begin row.end
