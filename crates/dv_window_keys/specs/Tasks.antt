-- The tasks of a window, which can be done in any order.
use Rattle.std.specs.Prelude.{ℕ, List, [], ◌∷◌, ◌++◌, map, slice_get}
use Rattle.std.specs.List.{flat_map}
use Rattle.std.specs.Option.{option_map_or}
use Rattle.dv_text.specs.declared.rows.Window.{Window}
use Rattle.dv_catalog.specs.declared.entries.FeedDef.{FeedDef}
use Rattle.dv_catalog.specs.declared.tables.TableId.{TableId}
use Rattle.dv_catalog.specs.declared.tables.TableId.TheVariants as ids
use Rattle.dv_catalog.specs.Entries.{Mapping}
use Rattle.dv_catalog.specs.Tables.{effect_tables, sat_tables}
use Rattle.dv_window_keys.specs.declared.tasks.Task.{Task}
use Rattle.dv_window_keys.specs.declared.tasks.Task.TheVariants.{Batch, Keys}

-- the tables of a feed: its satellite, plain or multi-active, its status and its effectivity, where it has them
abbrev pub feed_block : ℕ → FeedDef → List TableId
feed_block n feed = sat_tables n feed.sub feed.attrs ++ ids.Status n ∷ effect_tables n feed.driver

abbrev pub tables_of_feed : Mapping → ℕ → List TableId
tables_of_feed mapping feed = option_map_or (feed_block feed) (slice_get mapping.feeds feed) []

-- the tasks of a feed: its keys, then its tables
abbrev pub feed_tasks : Mapping → ℕ → List Task
feed_tasks mapping feed = Keys feed ∷ map (λ table. Batch table) (tables_of_feed mapping feed)

-- the tasks of a window, in the order of their numbers: those of each of its feeds, which stand in declared order
abbrev pub tasks : Mapping → Window → List Task
tasks mapping window = flat_map (λ staged. feed_tasks mapping staged.feed) window.extracts
