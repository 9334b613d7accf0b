-- How an office takes a window, or breaks off.
use Rattle.std.specs.Prelude.{◌≡◌, ℕ, Bool, true, Option, Some, Result, Ok, Err}
use Rattle.dv_records.specs.declared.keepers.KeeperError.{KeeperError}
use Rattle.dv_records.specs.declared.stores.Store.{Store}
use Rattle.dv_vault.specs.declared.begun.Begun.{Begun}
use Rattle.dv_vault.specs.Additions.{Fits, tables_whole}
use Rattle.dv_vault.specs.Keeping.{BreaksWindow, TakesWindow}
use Rattle.dv_window.specs.Offices.{Held}
use Rattle.dv_window.specs.Plans.{held_broken, held_with}

-- an office broke off to take a window, which was open or not: it has what is left of it
pub record BrokeAt (is_open : Bool) (begun : Begun) (error : KeeperError) (held held' : Held) (before after : Option Store) : Type 0 where
  pub left : Option Begun
  pub held_is : held' ≡ held_broken error left held
  pub broke : BreaksWindow is_open held.vault.tables begun before after (record { error = error; begun = left })

-- a window was taken, or broken off
abbrev pub TookOrBroke : Bool → Begun → Held → Held → Option Store → Option Store → Result ℕ KeeperError → Type 0
TookOrBroke is_open begun held held' before after (Ok rows) =
    (rows ≡ begun.rows) × (held' ≡ held_with begun held) × TakesWindow begun.window (tables_whole held.vault.tables begun.parts.items) before after
TookOrBroke is_open begun held held' before after (Err error) = BrokeAt is_open begun error held held' before after

-- the open window was completed, or broken off
pub record CompletesAs (held held' : Held) (before after : Option Store) (result : Result ℕ KeeperError) : Type 0 where
  pub begun : Begun
  pub begun_is : held.begun ≡ Some begun
  pub may_be : Fits held.vault begun
  pub came : TookOrBroke true begun held held' before after result
