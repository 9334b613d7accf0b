-- What is restored of the open window of a store, and what it is in a state.
use Rattle.std.specs.Prelude.{◌≡◌, ◌+◌, List, Option, Some, None, sum_by}
use Rattle.dv_text.specs.declared.rows.Window.{Window}
use Rattle.dv_text.specs.Keys.{Hashes}
use Rattle.dv_catalog.specs.Entries.{Mapping}
use Rattle.dv_records.specs.declared.stores.TableRows.{TableRows}
use Rattle.dv_records.specs.Stores.{row_count}
use Rattle.dv_vault.specs.declared.begun.Begun.{Begun}
use Rattle.dv_vault.specs.Additions.{IsBegunBehind, all_added, opened_in, rest_in, tables_there, vault_there, weight_with}
use Rattle.dv_vault.specs.Vaults.{RawVault}
use Rattle.dv_restore.specs.Begins.{HasPlace}

-- F15: the open window of a store, if there is one, has a place in the vault as it is stored
abbrev pub MayGoOn : Hashes → RawVault → Option Window → Type 0
MayGoOn hashes raw None = Unit {0}
MayGoOn hashes raw (Some window) = HasPlace hashes raw window

-- what is begun is a window of which the tables lack what it adds to their rows, where it has a place
pub record IsBegunOf (hashes : Hashes) (raw : RawVault) (window : Window) (begun : Begun) : Type 0 where
  pub window_is : begun.window ≡ window
  pub place : HasPlace hashes (vault_there raw begun) window
  pub rest_is : rest_in begun.parts.items ≡ all_added hashes (vault_there raw begun) window
  pub rows_are : begun.rows ≡ sum_by row_count (opened_in begun.parts.items) + sum_by row_count (rest_in begun.parts.items)
  pub weight_is : begun.weight ≡ weight_with hashes (vault_there raw begun) window

-- where a window is open it is begun, and only there
abbrev pub IsBegunAs : Hashes → RawVault → Option Window → Option Begun → Type 0
IsBegunAs hashes raw None None = Unit {0}
IsBegunAs hashes raw None (Some begun) = ⊥
IsBegunAs hashes raw (Some window) None = ⊥
IsBegunAs hashes raw (Some window) (Some begun) = IsBegunOf hashes raw window begun

-- in a state some first tables have the batches of the open window
abbrev pub IsOpenBehind : Mapping → Hashes → List Window → Option Window → Option Begun → Type 0
IsOpenBehind mapping hashes sealed None None = Unit {0}
IsOpenBehind mapping hashes sealed None (Some begun) = ⊥
IsOpenBehind mapping hashes sealed (Some window) None = ⊥
IsOpenBehind mapping hashes sealed (Some window) (Some begun) = IsBegunBehind mapping hashes sealed window begun

-- the rows of tables: those of a vault, and behind them those of the open window that are there
abbrev pub rows_there : RawVault → Option Begun → List TableRows
rows_there raw None = raw.tables
rows_there raw (Some begun) = tables_there raw.tables begun.parts.items
