-- The first damage of stores whose snapshots break the rule of form F14, and of some that keep it.
use Rattle.std.specs.Prelude.{◌≡◌, ℕ, ◌+◌, ◌≤◌, List, [], ◌∷◌, Option, Some, None, codes, length}
use Rattle.dv_text.specs.declared.rows.WindowHead.{WindowHead}
use Rattle.dv_catalog.specs.declared.tables.TableId.TheVariants.{Status}
use Rattle.dv_records.specs.declared.answers.Damage.{Damage}
use Rattle.dv_records.specs.declared.raw_rows.Code.TheVariants.{D}
use Rattle.dv_records.specs.declared.snapshots.Snap.{Snap}
use Rattle.dv_records.specs.declared.snapshots.SnapHead.{SnapHead}
use Rattle.dv_records.specs.declared.stores.Rows.TheVariants.{Statuses}
use Rattle.dv_records.specs.declared.stores.Store.{Store}
use Rattle.dv_records.specs.MemoryKeepers.{empty_store}
use Rattle.dv_store_rules.specs.SnapshotHeads.{snapshot_rule}
use Rattle.dv_shown.specs.Damaged.{at, coded, customers_store, with_other}
use Rattle.dv_shown.specs.DamagedStores.{damage}
use Rattle.dv_shown.specs.Mappings.{with_names}
use Rattle.dv_shown.specs.Words.{day, staged, window}

-- a snapshot at a date, without tables, whose head says that it weighs so much
abbrev pub snap_at : ℕ → ℕ → Snap
snap_at date weight = record { head = record { date = date; rows = 0; weight = weight }; tables = [] }

-- the customers of two days, with snapshots
abbrev pub with_snapshots : List Snap → Store
with_snapshots snaps = record customers_store { snapshots = snaps }

-- the first damage of these
abbrev pub damage_of : List Snap → Option Damage
damage_of snaps = damage with_names (with_snapshots snaps)

pub record SnapshotsDamaged : Type 0 where
  -- at the two load dates, at one between them and at one before both
  pub in_order : damage_of (snap_at (day 1) 0 ∷ snap_at (day 2) 144 ∷ []) ≡ None
  pub between : damage_of (snap_at (day 1 + 1) 144 ∷ []) ≡ None
  pub early : damage_of (snap_at 0 0 ∷ []) ≡ None
  pub same_date : damage_of (snap_at (day 1) 0 ∷ snap_at (day 1) 0 ∷ []) ≡ at (codes "snapshots") 2 14
  pub falls : damage_of (snap_at (day 1) 0 ∷ snap_at (day 2) 0 ∷ snap_at (day 1 + 1) 0 ∷ []) ≡ at (codes "snapshots") 3 14
  pub future : damage_of (snap_at (day 2 + 1) 0 ∷ []) ≡ at (codes "snapshots") 1 14
  -- the open window counts for nothing
  pub of_open : damage with_names (record (with_snapshots (snap_at (day 3) 0 ∷ [])) { stage = Some (window 3 (staged 0 [] ∷ [])) }) ≡ at (codes "snapshots") 1 14
  pub none_sealed : damage with_names (record empty_store { snapshots = snap_at 0 0 ∷ [] }) ≡ at (codes "snapshots") 1 14
  pub full : damage_of (snap_at (day 1) 268435455 ∷ snap_at (day 2) 1 ∷ []) ≡ None
  pub heavy : damage_of (snap_at (day 1) 268435455 ∷ snap_at (day 2) 2 ∷ []) ≡ at (codes "snapshots") 2 14
  pub heavy_first : damage_of (snap_at (day 1) 268435457 ∷ snap_at (day 1) 0 ∷ []) ≡ at (codes "snapshots") 1 14
  -- rows are looked at before
  pub rows_first :
      damage with_names (record (with_other (Status 0) (Statuses (coded (codes "1") 1 D ∷ [])) customers_store) { snapshots = snap_at (day 2 + 1) 0 ∷ [] })
      ≡ at (codes "status_customers") 1 11
  -- the 1,001st, whatever it is
  pub many : (windows : List WindowHead) (before : List SnapHead) (head : SnapHead) → 1000 ≤ length before → snapshot_rule windows before head ≡ Some 14
