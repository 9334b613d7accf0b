-- The vault: the raw tables, each the concatenation of its batches.
use Rattle.std.specs.Prelude.{◌≡◌, ℕ, nat_le, Contains, List, [], ◌++◌, Option, Some, None, filter, map, take, drop}
use Rattle.dv_text.specs.declared.rows.Window.{Window}
use Rattle.dv_text.specs.Keys.{Hashes}
use Rattle.dv_catalog.specs.declared.tables.TableId.{TableId}
use Rattle.dv_catalog.specs.declared.tables.TableId.TheVariants.{Hub, Link, Sat, Multi, Status, Effect}
use Rattle.dv_catalog.specs.Entries.{Mapping}
use Rattle.dv_catalog.specs.Feeds.{source}
use Rattle.dv_catalog.specs.Tables.{tables}
use Rattle.dv_records.specs.declared.stores.Rows.{Rows}
use Rattle.dv_records.specs.declared.stores.Rows.TheVariants.{Hubs, Links, Sats, Multis, Statuses, Effects, Pits, Bridges}
use Rattle.dv_records.specs.declared.stores.TableRows.{TableRows}
use Rattle.dv_records.specs.Backwards.{Backwards, backwards, with_newest}
use Rattle.dv_records.specs.Batches.{appended}
use Rattle.dv_records.specs.Effects.{effect_batch}
use Rattle.dv_records.specs.History.{Extract, extract_of, history}
use Rattle.dv_records.specs.Hubs.{hub_batch, link_batch}
use Rattle.dv_records.specs.Satellites.{multi_batch, sat_batch}
use Rattle.dv_records.specs.Statuses.{status_batch}
use Rattle.dv_records.specs.Stores.{no_rows, rows_in}

-- the batch of an extract, if there is one; no rows where there is none
abbrev pub batch_at : {R : Type 0} → (List Extract → Extract → List R) → List Extract → Option Extract → List R
batch_at batch older None = []
batch_at batch older (Some newest) = batch older newest

-- a window's batch for a table of a feed: that of the feed's extract, no rows where the window hasn't the feed
abbrev pub feed_batch : {R : Type 0} → ℕ → (List Extract → Extract → List R) → List Window → Window → List R
feed_batch feed batch older window = batch_at batch (history feed older) (extract_of feed window)

-- a window's batch for a table, after older windows
abbrev pub table_batch : Mapping → Hashes → TableId → Backwards → Window → Rows
table_batch mapping hashes (Hub hub) older window = Hubs (hub_batch mapping hashes hub older.windows window)
table_batch mapping hashes (Link link) older window = Links (link_batch mapping hashes link older.windows window)
table_batch mapping hashes (Sat feed) older window = Sats (feed_batch feed (sat_batch hashes (source mapping feed)) older.windows window)
table_batch mapping hashes (Multi feed) older window = Multis (feed_batch feed (multi_batch hashes (source mapping feed)) older.windows window)
table_batch mapping hashes (Status feed) older window = Statuses (feed_batch feed (status_batch hashes (source mapping feed)) older.windows window)
table_batch mapping hashes (Effect feed) older window = Effects (feed_batch feed (effect_batch hashes (source mapping feed)) older.windows window)

-- a table after windows: its batches, in the order of the windows
abbrev pub table_after : Mapping → Hashes → Backwards → TableId → Rows
table_after mapping hashes after (Hub hub) = Hubs (appended (hub_batch mapping hashes hub) after.windows)
table_after mapping hashes after (Link link) = Links (appended (link_batch mapping hashes link) after.windows)
table_after mapping hashes after (Sat feed) = Sats (appended (feed_batch feed (sat_batch hashes (source mapping feed))) after.windows)
table_after mapping hashes after (Multi feed) = Multis (appended (feed_batch feed (multi_batch hashes (source mapping feed))) after.windows)
table_after mapping hashes after (Status feed) = Statuses (appended (feed_batch feed (status_batch hashes (source mapping feed))) after.windows)
table_after mapping hashes after (Effect feed) = Effects (appended (feed_batch feed (effect_batch hashes (source mapping feed))) after.windows)

-- a table with its rows after windows
abbrev pub table_entry : Mapping → Hashes → Backwards → TableId → TableRows
table_entry mapping hashes after table = record { table = table; rows = table_after mapping hashes after table }

-- the vault of the sealed windows: all raw tables, in table order
abbrev pub vault : Mapping → Hashes → List Window → List TableRows
vault mapping hashes sealed = map (table_entry mapping hashes (backwards sealed)) (tables mapping)

-- what the vault has of a table: of one of the mapping's, its rows after the windows, and of any other none
pub record HoldsTable (mapping : Mapping) (hashes : Hashes) (sealed : List Window) (table : TableId) : Type 0 where
  pub rows : Contains (tables mapping) table → rows_in table (vault mapping hashes sealed) ≡ table_after mapping hashes (backwards sealed) table
  pub none : (Contains (tables mapping) table → ⊥) → rows_in table (vault mapping hashes sealed) ≡ no_rows table

-- the vault while a window is loaded: the first k tables in table order have its batch, and the others don't yet
abbrev pub partial : Mapping → Hashes → List Window → Window → ℕ → List TableRows
partial mapping hashes sealed window k =
    map (table_entry mapping hashes (with_newest window (backwards sealed))) (take k (tables mapping))
    ++ map (table_entry mapping hashes (backwards sealed)) (drop k (tables mapping))

-- the rows of a raw table with a load date not later than a date; the rows of a snapshot have none, and stay
abbrev pub rows_up_to : ℕ → Rows → Rows
rows_up_to date (Hubs rows) = Hubs (filter (λ row. nat_le row.load date) rows)
rows_up_to date (Links rows) = Links (filter (λ row. nat_le row.load date) rows)
rows_up_to date (Sats rows) = Sats (filter (λ row. nat_le row.load date) rows)
rows_up_to date (Multis rows) = Multis (filter (λ row. nat_le row.load date) rows)
rows_up_to date (Statuses rows) = Statuses (filter (λ row. nat_le row.load date) rows)
rows_up_to date (Effects rows) = Effects (filter (λ row. nat_le row.load date) rows)
rows_up_to date (Pits rows) = Pits rows
rows_up_to date (Bridges rows) = Bridges rows
