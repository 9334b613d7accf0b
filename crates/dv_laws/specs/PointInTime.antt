-- The load dates of point-in-time cells are those of the satellite rows that are valid, and the tables of the vault say
-- the point-in-time tables of the sealed windows.
use Rattle.std.specs.Option.{option_map}
use Rattle.std.specs.Prelude.{◌≡◌, ◌↔◌, ℕ, ◌<◌, true, List, Some, Contains, length, reverse}
use Rattle.dv_text.specs.declared.rows.Key.{Key}
use Rattle.dv_text.specs.declared.rows.Window.{Window}
use Rattle.dv_text.specs.Keys.{Hashes}
use Rattle.dv_catalog.specs.declared.tables.TableId.TheVariants.{Sat, Multi}
use Rattle.dv_catalog.specs.Entries.{Mapping}
use Rattle.dv_catalog.specs.Mappings.{is_valid}
use Rattle.dv_records.specs.declared.raw_rows.MultiRow.{MultiRow}
use Rattle.dv_records.specs.declared.raw_rows.SatRow.{SatRow}
use Rattle.dv_records.specs.declared.stores.Rows.TheVariants.{Sats, Multis}
use Rattle.dv_records.specs.Collisions.{IsApart}
use Rattle.dv_records.specs.History.{delivered_refs, history, up_to, IsInLoadOrder}
use Rattle.dv_records.specs.Reconstruction.{HasOneRowEach, HasOneRowPerSub, all_valid_at, valid_at}
use Rattle.dv_records.specs.Snapshots.{changed_at, pit}
use Rattle.dv_records.specs.States.{are_windows_valid}
use Rattle.dv_records.specs.Vault.{table_after, vault}
use Rattle.dv_pit.specs.PitTables.{pit_read}
use Rattle.dv_records.specs.Backwards.{backwards}

-- the load date that a cell has of a satellite at a date is that of the row that is valid for the parent then, and none
-- where no row is, where no other list that the windows deliver has the hash key
abbrev pub SatCellsTell : Type 0
SatCellsTell =
    (mapping : Mapping) (hashes : Hashes) (feed : ℕ) (sealed : List Window) (rows : List SatRow)
    → table_after mapping hashes (backwards sealed) (Sat feed) ≡ Sats rows
    → IsInLoadOrder sealed → HasOneRowEach feed sealed → IsApart hashes (delivered_refs feed sealed)
    → (refs : List Key) → ((other : List Key) → Contains (delivered_refs feed sealed) other → hashes.hash other ≡ hashes.hash refs → other ≡ refs)
    → (date : ℕ) → option_map (λ row. row.load) (valid_at rows (hashes.hash refs) date) ≡ changed_at (up_to date (history feed (reverse sealed))) refs

-- and of a multi-active satellite it is that of the rows that are valid then
abbrev pub MultiCellsTell : Type 0
MultiCellsTell =
    (mapping : Mapping) (hashes : Hashes) (feed : ℕ) (sealed : List Window) (rows : List MultiRow)
    → table_after mapping hashes (backwards sealed) (Multi feed) ≡ Multis rows
    → IsInLoadOrder sealed → HasOneRowPerSub feed sealed → IsApart hashes (delivered_refs feed sealed)
    → (refs : List Key) → ((other : List Key) → Contains (delivered_refs feed sealed) other → hashes.hash other ≡ hashes.hash refs → other ≡ refs)
    → (date load : ℕ)
    → (changed_at (up_to date (history feed (reverse sealed))) refs ≡ Some load) ↔ ((row : MultiRow) × Contains (all_valid_at rows (hashes.hash refs) date) row × (row.load ≡ load))

-- what the raw tables of the vault say of a hub at a date is its point-in-time table
abbrev pub PitsTell : Type 0
PitsTell =
    (mapping : Mapping) (hashes : Hashes) (sealed : List Window) (hub date : ℕ)
    → is_valid mapping ≡ true → are_windows_valid mapping hashes sealed ≡ true → hub < length mapping.hubs
    → pit_read mapping (vault mapping hashes sealed) hub date ≡ pit mapping hashes sealed hub date
