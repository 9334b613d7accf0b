-- The feeds of a hub, as the code and the definitions have them.
use Rattle.std.specs.Prelude.{ℕ}
use Rattle.dv_catalog.specs.declared.entries.FeedDef.{FeedDef}
use Rattle.dv_print.specs.declared.hub_feeds.HubFeed.{HubFeed}

-- a feed with its place
abbrev pub told : HubFeed → ℕ × FeedDef
told feed = (feed.place, feed.definition.now)
