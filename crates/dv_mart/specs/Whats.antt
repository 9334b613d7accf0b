-- The word for a mart or a table: its kind, a colon and a name.
use Rattle.std.specs.Prelude.{ℕ, ◌==◌, Bool, false, not, List, [], ◌∷◌, Option, Some, None, codes, find, length, option_and_then, option_map, position, slice_get, if◌then◌else◌}
use Rattle.std.specs.Str.{bytes_eq}
use Rattle.dv_catalog.specs.declared.entries.FeedDef.{FeedDef}
use Rattle.dv_catalog.specs.declared.tables.TableId.{TableId}
use Rattle.dv_catalog.specs.Entries.{Mapping}
use Rattle.dv_catalog.specs.FirstOf.{first_of}
use Rattle.dv_catalog.specs.Tables.{table_name, tables}
use Rattle.dv_print.specs.Words.{behind}
use Rattle.dv_mart.specs.declared.whats.What.{What}
use Rattle.dv_mart.specs.declared.whats.What.TheVariants.{Feed, Hub, Path, Period, Table, Pit, Bridge}

-- the place of the hub, feed or path with a name
abbrev pub hub_place : Mapping → List ℕ → Option ℕ
hub_place mapping name = position (λ hub. bytes_eq hub.name name) mapping.hubs

abbrev pub feed_place : Mapping → List ℕ → Option ℕ
feed_place mapping name = position (λ feed. bytes_eq feed.name name) mapping.feeds

abbrev pub path_place : Mapping → List ℕ → Option ℕ
path_place mapping name = position (λ path. bytes_eq path.name name) mapping.paths

abbrev pub has_driver : Option FeedDef → Bool
has_driver None = false
has_driver (Some feed) = not (length feed.driver == 0)

abbrev pub if_driver : Mapping → ℕ → Option ℕ
if_driver mapping feed = if has_driver (slice_get mapping.feeds feed) then Some feed else None

-- the place of the feed with a name, where it has a driver
abbrev pub driver_feed_place : Mapping → List ℕ → Option ℕ
driver_feed_place mapping name = option_and_then (if_driver mapping) (feed_place mapping name)

-- the raw table with a name
abbrev pub table_named : Mapping → List ℕ → Option TableId
table_named mapping name = find (λ table. bytes_eq (table_name mapping table) name) (tables mapping)

abbrev pub feed_word : Mapping → List ℕ → Option What
feed_word mapping word = option_map (λ feed. Feed feed) (option_and_then (feed_place mapping) (behind (codes "feed:") word))

abbrev pub hub_word : Mapping → List ℕ → Option What
hub_word mapping word = option_map (λ hub. Hub hub) (option_and_then (hub_place mapping) (behind (codes "hub:") word))

abbrev pub path_word : Mapping → List ℕ → Option What
path_word mapping word = option_map (λ path. Path path) (option_and_then (path_place mapping) (behind (codes "path:") word))

abbrev pub period_word : Mapping → List ℕ → Option What
period_word mapping word = option_map (λ feed. Period feed) (option_and_then (driver_feed_place mapping) (behind (codes "period:") word))

abbrev pub table_word : Mapping → List ℕ → Option What
table_word mapping word = option_map (λ table. Table table) (option_and_then (table_named mapping) (behind (codes "table:") word))

abbrev pub pit_word : Mapping → List ℕ → Option What
pit_word mapping word = option_map (λ hub. Pit hub) (option_and_then (hub_place mapping) (behind (codes "pit:") word))

abbrev pub bridge_word : Mapping → List ℕ → Option What
bridge_word mapping word = option_map (λ path. Bridge path) (option_and_then (path_place mapping) (behind (codes "bridge:") word))

-- the mart or table that a word names
abbrev pub what_of : Mapping → List ℕ → Option What
what_of mapping word =
    first_of (
    feed_word mapping word ∷ hub_word mapping word ∷ path_word mapping word ∷ period_word mapping word ∷ table_word mapping word
    ∷ pit_word mapping word ∷ bridge_word mapping word ∷ [])

-- a mart itself; a raw table, a point-in-time table and a bridge table are none
abbrev pub if_mart : What → Option What
if_mart (Table table) = None
if_mart (Pit hub) = None
if_mart (Bridge path) = None
if_mart what = Some what

-- the mart that a word names; a raw table, a point-in-time table and a bridge table are none
abbrev pub offered_mart : Mapping → List ℕ → Option What
offered_mart mapping word = option_and_then if_mart (what_of mapping word)
