-- The text of a mart or a table at a date: of marts over the sealed windows, of raw tables by the rows that the store has.
use Rattle.std.specs.Prelude.{◌≡◌, ℕ, true, List, [], Option, Some, None, Result, Ok, Err, slice_get, if◌then◌else◌}
use Rattle.dv_text.specs.declared.rows.Window.{Window}
use Rattle.dv_text.specs.Keys.{Hashes}
use Rattle.dv_catalog.specs.declared.entries.FeedDef.{FeedDef}
use Rattle.dv_catalog.specs.declared.entries.PathDef.{PathDef}
use Rattle.dv_catalog.specs.declared.tables.TableId.{TableId}
use Rattle.dv_catalog.specs.Entries.{Mapping}
use Rattle.dv_records.specs.declared.stores.TableRows.{TableRows}
use Rattle.dv_records.specs.Marts.{feed_mart, hub_mart, path_mart, period_mart}
use Rattle.dv_records.specs.Snapshots.{bridge, pit}
use Rattle.dv_records.specs.Steps.{is_too_large}
use Rattle.dv_records.specs.Stores.{is_of_kind, rows_in}
use Rattle.dv_records.specs.Vault.{rows_up_to}
use Rattle.dv_vault.specs.Vaults.{HasSealed, RawVault}
use Rattle.dv_bridge.specs.Paths.{name_of_path, path_feeds}
use Rattle.dv_bridge.specs.ZeroKeys.{HasZeroKeys}
use Rattle.dv_print.specs.declared.query_rules.QueryRule.{QueryRule}
use Rattle.dv_print.specs.declared.query_rules.QueryRule.TheVariants.{TooLarge}
use Rattle.dv_mart.specs.declared.whats.What.{What}
use Rattle.dv_mart.specs.declared.whats.What.TheVariants as what
use Rattle.dv_print.specs.TableTexts.{table_text}
use Rattle.dv_print.specs.Texts.{bridge_text, feed_text, hub_text, path_text, period_text, pit_text}

-- ---- raw tables

-- a table has rows of its kind
abbrev pub HasKind : List TableRows → TableId → Type 0
HasKind tables table = is_of_kind table (rows_in table tables) ≡ true

-- the text of a raw table: its rows in the store that are not later than the date
abbrev pub raw_text : Mapping → List TableRows → TableId → ℕ → List ℕ
raw_text mapping tables table date = table_text mapping table (rows_up_to date (rows_in table tables))

-- ---- all marts and tables

abbrev pub feed_text_by : List Window → ℕ → ℕ → Option FeedDef → List ℕ
feed_text_by sealed feed date None = []
feed_text_by sealed feed date (Some def) = feed_text def (feed_mart sealed feed date)

abbrev pub period_text_by : List Window → ℕ → ℕ → Option FeedDef → List ℕ
period_text_by sealed feed date None = []
period_text_by sealed feed date (Some def) = period_text def (period_mart sealed feed date)

abbrev pub path_text_by : Mapping → List Window → ℕ → ℕ → Option PathDef → List ℕ
path_text_by mapping sealed path date def = path_text mapping (path_feeds def) (path_mart mapping sealed path date)

abbrev pub bridge_text_by : Mapping → Hashes → List Window → ℕ → ℕ → Option PathDef → List ℕ
bridge_text_by mapping hashes sealed path date def =
    bridge_text mapping (path_feeds def) date (bridge mapping hashes sealed path date)

-- what is asked of a path: its text, or the rule Q3, where some first steps of the path give too many rows
abbrev pub if_not_too_large : Mapping → List Window → ℕ → Option PathDef → List ℕ → Result (List ℕ) QueryRule
if_not_too_large mapping sealed date None text = Ok text
if_not_too_large mapping sealed date (Some path) text =
    if is_too_large mapping sealed date path then Err (TooLarge path.name) else Ok text

-- the text of a mart over the sealed windows, or of a table with its rows in the store that are not later than the date
abbrev pub mart_text : Mapping → Hashes → List Window → List TableRows → What → ℕ → Result (List ℕ) QueryRule
mart_text mapping hashes sealed tables (what.Feed feed) date = Ok (feed_text_by sealed feed date (slice_get mapping.feeds feed))
mart_text mapping hashes sealed tables (what.Hub hub) date = Ok (hub_text mapping hub (hub_mart mapping sealed hub date))
mart_text mapping hashes sealed tables (what.Path path) date =
    if_not_too_large mapping sealed date (slice_get mapping.paths path)
    (path_text_by mapping sealed path date (slice_get mapping.paths path))
mart_text mapping hashes sealed tables (what.Period feed) date = Ok (period_text_by sealed feed date (slice_get mapping.feeds feed))
mart_text mapping hashes sealed tables (what.Table table) date = Ok (raw_text mapping tables table date)
mart_text mapping hashes sealed tables (what.Pit hub) date = Ok (pit_text mapping hub date (pit mapping hashes sealed hub date))
mart_text mapping hashes sealed tables (what.Bridge path) date =
    if_not_too_large mapping sealed date (slice_get mapping.paths path)
    (bridge_text_by mapping hashes sealed path date (slice_get mapping.paths path))

-- ---- the path of a mart

-- the name of the path that a path's mart or bridge is of; of anything else it has no bytes
abbrev pub path_name : Mapping → What → List ℕ
path_name mapping (what.Path path) = name_of_path (slice_get mapping.paths path)
path_name mapping (what.Bridge path) = name_of_path (slice_get mapping.paths path)
path_name mapping what = []

-- Where windows are sealed in a vault, the answer to what is asked is that a path has too many rows.
abbrev pub RefusesPath : RawVault → What → ℕ → Type 0
RefusesPath vault asked date = (hashes : Hashes) (sealed : List Window) → HasZeroKeys hashes → HasSealed hashes sealed vault → mart_text vault.mapping hashes sealed vault.tables asked date ≡ Err (TooLarge (path_name vault.mapping asked))
