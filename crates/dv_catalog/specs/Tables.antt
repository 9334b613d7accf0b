-- The raw tables of a mapping, in table order, and their names.
use Rattle.std.specs.Prelude.{ℕ, ◌+◌, List, [], ◌∷◌, ◌++◌, Option, Some, None, codes, length, map, slice_get}
use Rattle.std.specs.List.{range_with_len}
use Rattle.dv_catalog.specs.declared.entries.FeedDef.{FeedDef}
use Rattle.dv_catalog.specs.declared.entries.HubDef.{HubDef}
use Rattle.dv_catalog.specs.declared.entries.LinkDef.{LinkDef}
use Rattle.dv_catalog.specs.declared.tables.TableId.{TableId}
use Rattle.dv_catalog.specs.declared.tables.TableId.TheVariants.{Hub, Link, Sat, Multi, Status, Effect}
use Rattle.dv_catalog.specs.Entries.{Mapping}

-- a feed's satellite: plain where it has attributes and no sub, multi-active where it has a sub, none without attributes
abbrev pub sat_tables : ℕ → List (List ℕ) → List (List ℕ) → List TableId
sat_tables feed sub [] = []
sat_tables feed [] (a ∷ attrs) = Sat feed ∷ []
sat_tables feed (s ∷ sub) (a ∷ attrs) = Multi feed ∷ []

-- a feed's effectivity table, where it has a driver
abbrev pub effect_tables : ℕ → List ℕ → List TableId
effect_tables feed [] = []
effect_tables feed (d ∷ driver) = Effect feed ∷ []

-- the tables of feeds, counted from n: satellite, status, effectivity
abbrev pub feed_tables : ℕ → List FeedDef → List TableId
feed_tables n [] = []
feed_tables n (feed ∷ feeds) = (sat_tables n feed.sub feed.attrs ++ Status n ∷ effect_tables n feed.driver) ++ feed_tables (n + 1) feeds

-- table order: the hubs, the links, then the tables of each feed, all in declared order
abbrev pub tables : Mapping → List TableId
tables mapping =
    map (λ n. Hub n) (range_with_len 0 (length mapping.hubs)) ++ map (λ n. Link n) (range_with_len 0 (length mapping.links))
    ++ feed_tables 0 mapping.feeds

abbrev pub hub_name : Option HubDef → List ℕ
hub_name None = []
hub_name (Some hub) = hub.name

abbrev pub link_name : Option LinkDef → List ℕ
link_name None = []
link_name (Some link) = link.name

abbrev pub feed_name : Option FeedDef → List ℕ
feed_name None = []
feed_name (Some feed) = feed.name

-- a table's name: what it is, and the name of its hub, link or feed
abbrev pub table_name : Mapping → TableId → List ℕ
table_name mapping (Hub n) = codes "hub_" ++ hub_name (slice_get mapping.hubs n)
table_name mapping (Link n) = codes "link_" ++ link_name (slice_get mapping.links n)
table_name mapping (Sat n) = codes "sat_" ++ feed_name (slice_get mapping.feeds n)
table_name mapping (Multi n) = codes "msat_" ++ feed_name (slice_get mapping.feeds n)
table_name mapping (Status n) = codes "status_" ++ feed_name (slice_get mapping.feeds n)
table_name mapping (Effect n) = codes "eff_" ++ feed_name (slice_get mapping.feeds n)
