-- The forms of the rows of a snapshot's tables: of point-in-time rows and of bridge rows.
use Rattle.std.proofs.Common.{ap}
use Rattle.std.specs.List.{list_all}
use Rattle.std.specs.Prelude.{◌≡◌, ℕ, ◌==◌, ◌&&◌, Bool, List, Option, None, Some, length, sum_by}
use Rattle.dv_catalog.specs.declared.entries.PathDef.{PathDef}
use Rattle.dv_catalog.specs.Entries.{Mapping}
use Rattle.dv_catalog.specs.Feeds.{feed_hubs}
use Rattle.dv_bridge.specs.Paths.{path_feeds}
use Rattle.dv_records.specs.declared.snapshots.BridgeRow.{BridgeRow}
use Rattle.dv_records.specs.declared.snapshots.PitRow.{PitRow}
use Rattle.dv_records.specs.declared.stores.Rows.{Rows}
use Rattle.dv_records.specs.declared.stores.Rows.TheVariants.{Bridges, Pits}
use Rattle.dv_records.specs.Marts.{hub_feeds}
use Rattle.dv_records.specs.Stores.{row_count}
use Rattle.dv_window.specs.declared.bridge_forms.BridgeForm.{BridgeForm}
use Rattle.dv_window.specs.declared.pit_forms.PitForm.{PitForm}
use Rattle.dv_window.specs.StoredRows.{has_width}

-- ---- point-in-time rows

-- point-in-time rows, where rows are of this kind
abbrev pub pits_in : Rows → Option (List PitRow)
pits_in (Pits rows) = Some rows
pits_in rows = None

pub pits_counted : (rows : Rows) (own : List PitRow) → pits_in rows ≡ Some own → row_count rows ≡ length own
pits_counted (Pits rows) own is = let same : rows ≡ own = cc in ap length same
pits_counted other own is = cc

-- a row has as many cells as it has to have, and a hash key of the width
abbrev pub is_sound_pit : PitForm → PitRow → Bool
is_sound_pit form row = (length row.cells == form.cells) && has_width form.width row.key

-- the form of the rows of a hub's table: a cell for each feed of the hub
abbrev pub pit_form : Mapping → ℕ → ℕ → PitForm
pit_form mapping width hub = record { cells = length (hub_feeds mapping hub); width = width }

-- ---- bridge rows

-- bridge rows, where rows are of this kind
abbrev pub bridges_in : Rows → Option (List BridgeRow)
bridges_in (Bridges rows) = Some rows
bridges_in rows = None

pub bridges_counted : (rows : Rows) (own : List BridgeRow) → bridges_in rows ≡ Some own → row_count rows ≡ length own
bridges_counted (Bridges rows) own is = let same : rows ≡ own = cc in ap length same
bridges_counted other own is = cc

-- a row has as many hash keys of links and of hubs as it has to have, each of the width
abbrev pub is_sound_bridge : BridgeForm → BridgeRow → Bool
is_sound_bridge form row =
    (length row.links == form.links) && (length row.hubs == form.hubs)
    && list_all (has_width form.width) row.links && list_all (has_width form.width) row.hubs

-- how many hubs the links of feeds have together
abbrev pub hub_count : Mapping → List ℕ → ℕ
hub_count mapping feeds = sum_by (λ feed. length (feed_hubs mapping feed)) feeds

-- the form of the rows of a path's bridge: a link for each feed of the path, and the hubs of all of them
abbrev pub bridge_form : Mapping → ℕ → Option PathDef → BridgeForm
bridge_form mapping width path = record { links = length (path_feeds path); hubs = hub_count mapping (path_feeds path); width = width }
