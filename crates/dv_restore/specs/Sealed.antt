-- What a store has of its sealed windows: all rows of its raw tables but those of the open window's load date.
use Rattle.std.specs.Prelude.{ℕ, ◌==◌, Bool, not, List, Option, Some, None, filter, map}
use Rattle.dv_text.specs.declared.rows.Window.{Window}
use Rattle.dv_text.specs.declared.rows.WindowHead.{WindowHead}
use Rattle.dv_catalog.specs.Entries.{Mapping}
use Rattle.dv_catalog.specs.Tables.{tables}
use Rattle.dv_records.specs.declared.stores.Rows.{Rows}
use Rattle.dv_records.specs.declared.stores.Rows.TheVariants.{Hubs, Links, Sats, Multis, Statuses, Effects, Pits, Bridges}
use Rattle.dv_records.specs.declared.stores.Store.{Store}
use Rattle.dv_records.specs.declared.stores.TableRows.{TableRows}
use Rattle.dv_store_rules.specs.Damages.{stored_entries}
use Rattle.dv_vault.specs.Vaults.{RawVault}

-- the rows of which the load date passes a test; the rows of a snapshot have none
abbrev pub rows_loaded : (ℕ → Bool) → Rows → Rows
rows_loaded test (Hubs rows) = Hubs (filter (λ row. test row.load) rows)
rows_loaded test (Links rows) = Links (filter (λ row. test row.load) rows)
rows_loaded test (Sats rows) = Sats (filter (λ row. test row.load) rows)
rows_loaded test (Multis rows) = Multis (filter (λ row. test row.load) rows)
rows_loaded test (Statuses rows) = Statuses (filter (λ row. test row.load) rows)
rows_loaded test (Effects rows) = Effects (filter (λ row. test row.load) rows)
rows_loaded test (Pits rows) = Pits rows
rows_loaded test (Bridges rows) = Bridges rows

-- the rows of a table that are those of sealed windows
abbrev pub sealed_rows : Option Window → Rows → Rows
sealed_rows None rows = rows
sealed_rows (Some window) rows = rows_loaded (λ load. not (load == window.load)) rows

abbrev pub sealed_entry : Option Window → TableRows → TableRows
sealed_entry stage entry = record { table = entry.table; rows = sealed_rows stage entry.rows }

-- the vault of the sealed windows with these heads, where tables have these rows and this window is open
abbrev pub sealed_vault : Mapping → List WindowHead → Option Window → List TableRows → RawVault
sealed_vault mapping heads stage entries = record { mapping = mapping; tables = map (sealed_entry stage) entries; heads = heads }

-- the vault of the sealed windows of a store
abbrev pub sealed_of : Mapping → Store → RawVault
sealed_of mapping store = sealed_vault mapping store.windows store.stage (stored_entries store (tables mapping))

-- ---- with the rows of the open window

-- the vault with these heads, where tables have these rows
abbrev pub vault_of : Mapping → List WindowHead → List TableRows → RawVault
vault_of mapping heads entries = record { mapping = mapping; tables = entries; heads = heads }

-- the vault as it is stored: all rows, also those of the open window
abbrev pub stored_vault : Mapping → Store → RawVault
stored_vault mapping store = vault_of mapping store.windows (stored_entries store (tables mapping))
