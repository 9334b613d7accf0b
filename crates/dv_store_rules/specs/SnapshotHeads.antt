-- The form of the heads of a store's snapshots.
use Rattle.std.specs.List.{last_or}
use Rattle.std.specs.Option.{option_map_or}
use Rattle.std.specs.Prelude.{ℕ, ◌+◌, ◌≤◌, Bool, true, ◌&&◌, not, nat_le, nat_lt, List, Option, None, length, map, sum_by}
use Rattle.dv_store_rules.specs.declared.flaws.Flaw.{Flaw}
use Rattle.dv_text.specs.declared.rows.WindowHead.{WindowHead}
use Rattle.dv_store_rules.specs.Flaws.{first_flaw, if_broken}
use Rattle.dv_store_rules.specs.StoredHeads.{is_later}
use Rattle.dv_records.specs.declared.snapshots.SnapHead.{SnapHead}
use Rattle.dv_records.specs.declared.stores.Store.{Store}
use Rattle.dv_records.specs.Limits.{most_snapshot_weight, most_snapshots}

-- the heads of a store's snapshots, by date
abbrev pub snapshot_heads : Store → List SnapHead
snapshot_heads store = map (λ snap. snap.head) store.snapshots

-- what snapshots weigh together
abbrev pub heads_weight : List SnapHead → ℕ
heads_weight heads = sum_by (λ head. head.weight) heads

-- the date of the last of some snapshots
abbrev pub last_date : List SnapHead → Option ℕ
last_date heads = last_or None (map (λ head. head.date) heads)

-- a date is later than that of the last of some snapshots, if there is one
abbrev pub is_after : List SnapHead → ℕ → Bool
is_after before date = option_map_or (λ last. nat_lt last date) (last_date before) true

-- F14: a snapshot is later than the one before, not later than the last sealed window, weighs with those before it no more
-- than all may, and is one of as many as may be stored
abbrev pub is_snapshot : List WindowHead → List SnapHead → SnapHead → Bool
is_snapshot windows before head =
    is_after before head.date && not (is_later windows head.date)
    && nat_le (heads_weight before + head.weight) most_snapshot_weight && nat_lt (length before) most_snapshots

-- the rule that the head of a snapshot breaks, where these windows are sealed, behind those before it
abbrev pub snapshot_rule : List WindowHead → List SnapHead → SnapHead → Option ℕ
snapshot_rule windows before head = if_broken 14 (is_snapshot windows before head)

-- the first snapshot whose head breaks it
abbrev pub snapshot_flaw : List WindowHead → List SnapHead → Option Flaw
snapshot_flaw windows heads = first_flaw (snapshot_rule windows) heads

-- heads of snapshots keep the limits of all: what they weigh together, and how many there are
pub record KeepLimits (heads : List SnapHead) : Type 0 where
  pub light : heads_weight heads ≤ most_snapshot_weight
  pub few : length heads ≤ most_snapshots
