-- Outlines of small mapping files, and the mappings that they declare.
use Rattle.std.specs.Prelude.{ℕ, List, [], ◌∷◌, codes}
use Rattle.dv_catalog.specs.declared.entries.FeedDef.{FeedDef}
use Rattle.dv_catalog.specs.declared.entries.HubDef.{HubDef}
use Rattle.dv_catalog.specs.declared.entries.Parent.{Parent}
use Rattle.dv_catalog.specs.declared.entries.Parent.TheVariants.{Hub, Link}
use Rattle.dv_catalog.specs.declared.outlines.Outline.{Outline}
use Rattle.dv_catalog.specs.declared.outlines.HubOutline.{HubOutline}
use Rattle.dv_catalog.specs.declared.outlines.LinkOutline.{LinkOutline}
use Rattle.dv_catalog.specs.declared.outlines.FeedOutline.{FeedOutline}
use Rattle.dv_catalog.specs.declared.outlines.PathOutline.{PathOutline}
use Rattle.dv_catalog.specs.declared.outlines.ParentName.TheVariants.{Hub as HubName, Link as LinkName}
use Rattle.dv_catalog.specs.Entries.{Mapping}

-- a hub of one part
abbrev pub hub : List ℕ → HubOutline
hub name = record { name = name; parts = 1 }

abbrev pub link : List ℕ → List (List ℕ) → LinkOutline
link name hubs = record { name = name; hubs = hubs }

-- a feed of a hub with one key column, and attributes
abbrev pub hub_feed : List ℕ → List ℕ → List ℕ → List (List ℕ) → FeedOutline
hub_feed name hub key attrs = record {
  name = name;
  source = codes "crm";
  parent = HubName hub;
  keys = (key ∷ []) ∷ [];
  sub = [];
  attrs = attrs;
  ignore = [];
  driver = [];
}

-- a feed of a link, with key columns, attributes and driving keys
abbrev pub link_feed : List ℕ → List ℕ → List (List (List ℕ)) → List (List ℕ) → List (List ℕ) → FeedOutline
link_feed name link keys attrs driver = record {
  name = name;
  source = codes "crm";
  parent = LinkName link;
  keys = keys;
  sub = [];
  attrs = attrs;
  ignore = [];
  driver = driver;
}

abbrev pub path : List ℕ → List (List ℕ) → List (List ℕ) → PathOutline
path name feeds via = record { name = name; feeds = feeds; via = via }

abbrev pub outline : List HubOutline → List LinkOutline → List FeedOutline → List PathOutline → Outline
outline hubs links feeds paths = record { hubs = hubs; links = links; feeds = feeds; paths = paths }

-- one hub, delivered by one feed without attributes
abbrev pub customers : Outline
customers = outline (hub (codes "customer") ∷ []) [] (hub_feed (codes "customers") (codes "customer") (codes "CUST_NO") [] ∷ []) []

-- the same feed, changed
abbrev pub customers_with : FeedOutline → Outline
customers_with feed = outline (hub (codes "customer") ∷ []) [] (feed ∷ []) []

-- one hub, delivered by two feeds
abbrev pub customers_and_accounts : Outline
customers_and_accounts =
    outline
    (hub (codes "customer") ∷ [])
    []
    (hub_feed (codes "customers") (codes "customer") (codes "CUST_NO") (codes "NAME" ∷ [])
    ∷ hub_feed (codes "accounts") (codes "customer") (codes "ACCOUNT") (codes "TIER" ∷ []) ∷ [])
    []

-- employees work in one department at a time: the driving keys are as given
abbrev pub assignments_by : List (List ℕ) → Outline
assignments_by driver =
    outline
    (hub (codes "employee") ∷ hub (codes "department") ∷ [])
    (link (codes "works") (codes "employee" ∷ codes "department" ∷ []) ∷ [])
    (link_feed (codes "assignments") (codes "works") ((codes "EMP" ∷ []) ∷ (codes "DEPT" ∷ []) ∷ []) [] driver ∷ [])
    []

-- customers, orders and products, and a path from customers to products: the feeds and shared hubs are as given
abbrev pub sold_by : List (List ℕ) → List (List ℕ) → Outline
sold_by feeds via =
    outline
    (hub (codes "customer") ∷ hub (codes "sales_order") ∷ hub (codes "product") ∷ [])
    (link (codes "placed") (codes "customer" ∷ codes "sales_order" ∷ []) ∷ link (codes "contains") (codes "sales_order" ∷ codes "product" ∷ []) ∷ [])
    (link_feed (codes "placements") (codes "placed") ((codes "CUST" ∷ []) ∷ (codes "ORD" ∷ []) ∷ []) [] []
    ∷ link_feed (codes "lines") (codes "contains") ((codes "ORD" ∷ []) ∷ (codes "PROD" ∷ []) ∷ []) (codes "QTY" ∷ []) [] ∷ [])
    (path (codes "sold") feeds via ∷ [])

abbrev pub placements_then_lines : List (List ℕ)
placements_then_lines = codes "placements" ∷ codes "lines" ∷ []

abbrev pub hub_entry : List ℕ → HubDef
hub_entry name = record { name = name; parts = 1 }

-- a feed of a mapping, with key columns, attributes and the places of driving keys
abbrev pub feed_entry : List ℕ → Parent → List (List (List ℕ)) → List (List ℕ) → List ℕ → FeedDef
feed_entry name parent keys attrs driver = record {
  name = name;
  source = codes "crm";
  parent = parent;
  keys = keys;
  sub = [];
  attrs = attrs;
  ignore = [];
  driver = driver;
}

abbrev pub customers_and_accounts_mapping : Mapping
customers_and_accounts_mapping = record {
  hubs = hub_entry (codes "customer") ∷ [];
  links = [];
  feeds =
      feed_entry (codes "customers") (Hub 0) ((codes "CUST_NO" ∷ []) ∷ []) (codes "NAME" ∷ []) []
      ∷ feed_entry (codes "accounts") (Hub 0) ((codes "ACCOUNT" ∷ []) ∷ []) (codes "TIER" ∷ []) [] ∷ [];
  paths = [];
}

abbrev pub assignments_mapping : Mapping
assignments_mapping = record {
  hubs = hub_entry (codes "employee") ∷ hub_entry (codes "department") ∷ [];
  links = record { name = codes "works"; hubs = 0 ∷ 1 ∷ [] } ∷ [];
  feeds = feed_entry (codes "assignments") (Link 0) ((codes "EMP" ∷ []) ∷ (codes "DEPT" ∷ []) ∷ []) [] (0 ∷ []) ∷ [];
  paths = [];
}

abbrev pub sold_mapping : Mapping
sold_mapping = record {
  hubs = hub_entry (codes "customer") ∷ hub_entry (codes "sales_order") ∷ hub_entry (codes "product") ∷ [];
  links = record { name = codes "placed"; hubs = 0 ∷ 1 ∷ [] } ∷ record { name = codes "contains"; hubs = 1 ∷ 2 ∷ [] } ∷ [];
  feeds =
      feed_entry (codes "placements") (Link 0) ((codes "CUST" ∷ []) ∷ (codes "ORD" ∷ []) ∷ []) [] []
      ∷ feed_entry (codes "lines") (Link 1) ((codes "ORD" ∷ []) ∷ (codes "PROD" ∷ []) ∷ []) (codes "QTY" ∷ []) [] ∷ [];
  paths = record { name = codes "sold"; feeds = 0 ∷ 1 ∷ []; via = 1 ∷ [] } ∷ [];
}
