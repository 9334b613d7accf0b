-- What is restored from a store: the vault of its sealed windows, the open one, and the heads of its snapshots.
use Rattle.std.specs.Option.{option_map}
use Rattle.std.specs.Prelude.{◌≡◌, Bool, true, List, Option, map}
use Rattle.dv_text.specs.declared.rows.WindowHead.{WindowHead}
use Rattle.dv_text.specs.Keys.{Hashes}
use Rattle.dv_catalog.specs.Entries.{Mapping}
use Rattle.dv_records.specs.declared.stores.Store.{Store}
use Rattle.dv_records.specs.declared.snapshots.SnapHead.{SnapHead}
use Rattle.dv_records.specs.Snapshots.{snapshot}
use Rattle.dv_records.specs.States.{State, ascends, is_valid_state}
use Rattle.dv_store_rules.specs.SnapshotHeads.{snapshot_heads}
use Rattle.dv_vault.specs.Keeping.{HasRows}
use Rattle.dv_vault.specs.Vaults.{HasSealed, RawVault}
use Rattle.dv_vault.specs.declared.begun.Begun.{Begun}
use Rattle.dv_restore.specs.Completions.{IsOpenBehind, rows_there}

-- the load dates of sealed windows ascend
abbrev pub are_in_order : List WindowHead → Bool
are_in_order heads = ascends (map (λ head. head.load) heads)

-- a store has what a vault, a window that is begun and heads of snapshots say, in the tables of the mapping
pub record HasKept (raw : RawVault) (begun : Option Begun) (snapshots : List SnapHead) (store : Store) : Type 0 where
  pub windows : store.windows ≡ raw.heads
  pub stage : store.stage ≡ option_map (λ b. b.window) begun
  pub tables_are : HasRows store (rows_there raw begun)
  pub snapshots_are : snapshots ≡ snapshot_heads store

-- the heads of the snapshots of a state
abbrev pub heads_of_state : Mapping → Hashes → State → List SnapHead
heads_of_state mapping hashes state = map (λ date. (snapshot mapping hashes state.sealed date).head) state.dates

-- a vault, a window that is begun and heads of snapshots are those of a state, which is valid
pub record IsOfState (hashes : Hashes) (state : State) (raw : RawVault) (begun : Option Begun) (snapshots : List SnapHead) : Type 0 where
  pub valid : is_valid_state raw.mapping hashes state ≡ true
  pub sealed_are : HasSealed hashes state.sealed raw
  pub begun_is : IsOpenBehind raw.mapping hashes state.sealed state.begun begun
  pub snapshots_are : snapshots ≡ heads_of_state raw.mapping hashes state
