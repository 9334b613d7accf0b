-- What the mapping says of a feed: its hubs, its record source, and the keys of a hub among its references.
use Rattle.std.specs.Prelude.{ℕ, ◌==◌, Bool, false, List, [], ◌∷◌, ◌++◌, Option, Some, None, if◌then◌else◌, slice_get}
use Rattle.dv_text.specs.declared.rows.Key.{Key}
use Rattle.dv_catalog.specs.declared.entries.FeedDef.{FeedDef}
use Rattle.dv_catalog.specs.declared.entries.HubDef.{HubDef}
use Rattle.dv_catalog.specs.declared.entries.LinkDef.{LinkDef}
use Rattle.dv_catalog.specs.declared.entries.Parent.{Parent}
use Rattle.dv_catalog.specs.declared.entries.Parent.TheVariants.{Hub, Link}
use Rattle.dv_catalog.specs.Entries.{Mapping}

-- whether two parents are one
abbrev pub parent_eq : Parent → Parent → Bool
parent_eq (Hub a) (Hub b) = a == b
parent_eq (Link a) (Link b) = a == b
parent_eq (Hub a) (Link b) = false
parent_eq (Link a) (Hub b) = false

abbrev pub link_hubs : Option LinkDef → List ℕ
link_hubs None = []
link_hubs (Some link) = link.hubs

-- the hubs of a parent's reference lists, in their order
abbrev pub parent_hubs : Mapping → Parent → List ℕ
parent_hubs mapping (Hub hub) = hub ∷ []
parent_hubs mapping (Link link) = link_hubs (slice_get mapping.links link)

abbrev pub hubs_by : Mapping → Option FeedDef → List ℕ
hubs_by mapping None = []
hubs_by mapping (Some feed) = parent_hubs mapping feed.parent

-- the hubs of a feed's reference lists
abbrev pub feed_hubs : Mapping → ℕ → List ℕ
feed_hubs mapping feed = hubs_by mapping (slice_get mapping.feeds feed)

-- whether a feed delivers to a parent
abbrev pub is_fed_by : Parent → Option FeedDef → Bool
is_fed_by parent None = false
is_fed_by parent (Some feed) = parent_eq parent feed.parent

abbrev pub source_by : Option FeedDef → List ℕ
source_by None = []
source_by (Some feed) = feed.source ++ 46 ∷ feed.name

-- a feed's record source: its source, a dot and its name
abbrev pub source : Mapping → ℕ → List ℕ
source mapping feed = source_by (slice_get mapping.feeds feed)

-- the keys of a hub among references, of which `hubs` are the hubs
abbrev pub keys_at : ℕ → List ℕ → List Key → List Key
keys_at hub [] refs = []
keys_at hub (h ∷ hubs) [] = []
keys_at hub (h ∷ hubs) (key ∷ refs) = if h == hub then key ∷ keys_at hub hubs refs else keys_at hub hubs refs

abbrev pub parts_of : Option HubDef → ℕ
parts_of None = 0
parts_of (Some hub) = hub.parts
