-- Mappings of the examples.
use Rattle.std.specs.Prelude.{ℕ, List, [], ◌∷◌, codes}
use Rattle.dv_catalog.specs.declared.entries.FeedDef.{FeedDef}
use Rattle.dv_catalog.specs.declared.entries.HubDef.{HubDef}
use Rattle.dv_catalog.specs.declared.entries.LinkDef.{LinkDef}
use Rattle.dv_catalog.specs.declared.entries.PathDef.{PathDef}
use Rattle.dv_catalog.specs.declared.entries.Parent.{Parent}
use Rattle.dv_catalog.specs.declared.entries.Parent.TheVariants.{Hub, Link}
use Rattle.dv_catalog.specs.Entries.{Mapping}

-- a hub whose keys have one part
abbrev pub hub : List ℕ → HubDef
hub name = record { name = name; parts = 1 }

abbrev pub link : List ℕ → List ℕ → LinkDef
link name hubs = record { name = name; hubs = hubs }

-- a feed with one column for each key part, a sub, attributes and a driver
abbrev pub feed : List ℕ → List ℕ → Parent → List (List (List ℕ)) → List (List ℕ) → List (List ℕ) → List ℕ → FeedDef
feed name source parent keys sub attrs driver =
    record { name = name; source = source; parent = parent; keys = keys; sub = sub; attrs = attrs; ignore = []; driver = driver }

-- the columns of keys of one part
abbrev pub columns : List (List ℕ) → List (List (List ℕ))
columns [] = []
columns (name ∷ names) = (name ∷ []) ∷ columns names

-- one hub and one feed of its keys alone
abbrev pub bare : Mapping
bare = record {
  hubs = hub (codes "customer") ∷ [];
  links = [];
  feeds = feed (codes "customers") (codes "crm") (Hub 0) (columns (codes "CUST_NO" ∷ [])) [] [] [] ∷ [];
  paths = [];
}

-- the same with a hub that no feed delivers
abbrev pub with_customers_and_sites : Mapping
with_customers_and_sites = record bare { hubs = hub (codes "customer") ∷ record { name = codes "site"; parts = 2 } ∷ [] }

-- and with that hub first
abbrev pub with_sites_and_customers : Mapping
with_sites_and_customers = record bare {
  hubs = record { name = codes "site"; parts = 2 } ∷ hub (codes "customer") ∷ [];
  feeds = feed (codes "customers") (codes "crm") (Hub 1) (columns (codes "CUST_NO" ∷ [])) [] [] [] ∷ [];
}

abbrev pub customers : FeedDef
customers = feed (codes "customers") (codes "crm") (Hub 0) (columns (codes "CUST_NO" ∷ [])) [] (codes "NAME" ∷ []) []

-- the same with an attribute
abbrev pub with_names : Mapping
with_names = record { hubs = hub (codes "customer") ∷ []; links = []; feeds = customers ∷ []; paths = [] }

abbrev pub accounts : FeedDef
accounts = feed (codes "accounts") (codes "shop") (Hub 0) (columns (codes "ACCOUNT" ∷ [])) [] (codes "TIER" ∷ []) []

-- two feeds of one hub
abbrev pub with_accounts : Mapping
with_accounts = record { hubs = hub (codes "customer") ∷ []; links = []; feeds = customers ∷ accounts ∷ []; paths = [] }

-- keys of two parts
abbrev pub with_sites : Mapping
with_sites = record {
  hubs = record { name = codes "site"; parts = 2 } ∷ [];
  links = [];
  feeds = feed (codes "sites") (codes "geo") (Hub 0) ((codes "REGION" ∷ codes "SITE" ∷ []) ∷ []) [] [] [] ∷ [];
  paths = [];
}

-- several rows for one key
abbrev pub with_phones : Mapping
with_phones = record {
  hubs = hub (codes "customer") ∷ [];
  links = [];
  feeds = feed (codes "phones") (codes "crm") (Hub 0) (columns (codes "CUST_NO" ∷ [])) (codes "KIND" ∷ []) (codes "PHONE" ∷ []) [] ∷ [];
  paths = [];
}

-- a link with a driving key
abbrev pub with_drivers : Mapping
with_drivers = record {
  hubs = hub (codes "employee") ∷ hub (codes "department") ∷ [];
  links = link (codes "works") (0 ∷ 1 ∷ []) ∷ [];
  feeds = feed (codes "assignments") (codes "hr") (Link 0) (columns (codes "EMP" ∷ codes "DEPT" ∷ [])) [] [] (0 ∷ []) ∷ [];
  paths = [];
}

abbrev pub sold : PathDef
sold = record { name = codes "sold"; feeds = 0 ∷ 1 ∷ []; via = 1 ∷ [] }

-- two links and a path over both
abbrev pub with_orders : Mapping
with_orders = record {
  hubs = hub (codes "customer") ∷ hub (codes "sales_order") ∷ hub (codes "product") ∷ [];
  links = link (codes "placed") (0 ∷ 1 ∷ []) ∷ link (codes "contains") (1 ∷ 2 ∷ []) ∷ [];
  feeds =
      feed (codes "placements") (codes "shop") (Link 0) (columns (codes "CUST" ∷ codes "ORD" ∷ [])) [] [] []
      ∷ feed (codes "lines") (codes "shop") (Link 1) (columns (codes "ORD" ∷ codes "PROD" ∷ [])) [] (codes "QTY" ∷ []) []
      ∷ [];
  paths = sold ∷ [];
}

-- the same, where several rows of the first feed have one reference list
abbrev pub with_channels : Mapping
with_channels = record {
  hubs = hub (codes "customer") ∷ hub (codes "sales_order") ∷ hub (codes "product") ∷ [];
  links = link (codes "placed") (0 ∷ 1 ∷ []) ∷ link (codes "contains") (1 ∷ 2 ∷ []) ∷ [];
  feeds =
      feed (codes "placements") (codes "shop") (Link 0) (columns (codes "CUST" ∷ codes "ORD" ∷ [])) (codes "CHANNEL" ∷ []) (codes "SINCE" ∷ []) []
      ∷ feed (codes "lines") (codes "shop") (Link 1) (columns (codes "ORD" ∷ codes "PROD" ∷ [])) [] (codes "QTY" ∷ []) []
      ∷ [];
  paths = sold ∷ [];
}

-- three links and a path over all
abbrev pub with_suppliers : Mapping
with_suppliers = record {
  hubs = hub (codes "customer") ∷ hub (codes "sales_order") ∷ hub (codes "product") ∷ hub (codes "supplier") ∷ [];
  links = link (codes "placed") (0 ∷ 1 ∷ []) ∷ link (codes "contains") (1 ∷ 2 ∷ []) ∷ link (codes "supplied") (2 ∷ 3 ∷ []) ∷ [];
  feeds =
      feed (codes "placements") (codes "shop") (Link 0) (columns (codes "CUST" ∷ codes "ORD" ∷ [])) [] [] []
      ∷ feed (codes "lines") (codes "shop") (Link 1) (columns (codes "ORD" ∷ codes "PROD" ∷ [])) [] [] []
      ∷ feed (codes "supplies") (codes "buy") (Link 2) (columns (codes "PROD" ∷ codes "SUPP" ∷ [])) [] [] []
      ∷ [];
  paths = record { name = codes "chain"; feeds = 0 ∷ 1 ∷ 2 ∷ []; via = 1 ∷ 2 ∷ [] } ∷ [];
}

-- a link's feed before a hub's feed
abbrev pub with_placements : Mapping
with_placements = record {
  hubs = hub (codes "customer") ∷ hub (codes "sales_order") ∷ [];
  links = link (codes "placed") (0 ∷ 1 ∷ []) ∷ [];
  feeds =
      feed (codes "placements") (codes "shop") (Link 0) (columns (codes "CUST" ∷ codes "ORD" ∷ [])) [] [] []
      ∷ feed (codes "orders") (codes "shop") (Hub 1) (columns (codes "ORD" ∷ [])) [] (codes "STATE" ∷ []) []
      ∷ feed (codes "customers") (codes "crm") (Hub 0) (columns (codes "CUST_NO" ∷ [])) [] [] []
      ∷ [];
  paths = [];
}

-- a second path, over the second feed alone
abbrev pub with_paths : Mapping
with_paths = record with_orders { paths = sold ∷ record { name = codes "bought"; feeds = 1 ∷ []; via = [] } ∷ [] }

-- a hub's feed before a link's feed with a driving key
abbrev pub with_staff : Mapping
with_staff = record with_drivers {
  feeds =
      feed (codes "staff") (codes "hr") (Hub 0) (columns (codes "EMP" ∷ [])) [] [] []
      ∷ feed (codes "assignments") (codes "hr") (Link 0) (columns (codes "EMP" ∷ codes "DEPT" ∷ [])) [] [] (0 ∷ [])
      ∷ [];
}

-- a second hub, whose keys have two parts
abbrev pub with_places : Mapping
with_places = record {
  hubs = hub (codes "customer") ∷ record { name = codes "site"; parts = 2 } ∷ [];
  links = [];
  feeds =
      customers ∷ feed (codes "sites") (codes "geo") (Hub 1) ((codes "REGION" ∷ codes "SITE" ∷ []) ∷ []) [] (codes "AREA" ∷ []) [] ∷ [];
  paths = [];
}

-- two feeds of one link, and a path that takes the first of them twice
abbrev pub with_imports : Mapping
with_imports = record {
  hubs = hub (codes "customer") ∷ hub (codes "sales_order") ∷ [];
  links = link (codes "placed") (0 ∷ 1 ∷ []) ∷ [];
  feeds =
      feed (codes "placements") (codes "shop") (Link 0) (columns (codes "CUST" ∷ codes "ORD" ∷ [])) [] [] []
      ∷ feed (codes "imports") (codes "old") (Link 0) (columns (codes "CUST" ∷ codes "ORD" ∷ [])) [] [] []
      ∷ [];
  paths = record { name = codes "shared"; feeds = 0 ∷ 0 ∷ []; via = 1 ∷ [] } ∷ [];
}

-- a driving key beside an attribute
abbrev pub with_roles : Mapping
with_roles = record with_drivers {
  feeds = feed (codes "assignments") (codes "hr") (Link 0) (columns (codes "EMP" ∷ codes "DEPT" ∷ [])) [] (codes "ROLE" ∷ []) (0 ∷ []) ∷ [];
}

-- several rows for one key, told apart by two columns
abbrev pub with_lines : Mapping
with_lines = record with_phones {
  feeds =
      feed (codes "phones") (codes "crm") (Hub 0) (columns (codes "CUST_NO" ∷ [])) (codes "KIND" ∷ codes "AT" ∷ []) (codes "PHONE" ∷ []) [] ∷ [];
}

-- feeds of one hub with an attribute, with a sub, and of keys alone
abbrev pub with_all_kinds : Mapping
with_all_kinds = record {
  hubs = hub (codes "customer") ∷ [];
  links = [];
  feeds =
      customers
      ∷ feed (codes "phones") (codes "crm") (Hub 0) (columns (codes "CUST_NO" ∷ [])) (codes "KIND" ∷ []) (codes "PHONE" ∷ []) []
      ∷ feed (codes "visits") (codes "shop") (Hub 0) (columns (codes "CUST_NO" ∷ [])) [] [] []
      ∷ [];
  paths = [];
}

-- two links that share a hub whose keys have two parts
abbrev pub with_stocks : Mapping
with_stocks = record {
  hubs = hub (codes "customer") ∷ record { name = codes "site"; parts = 2 } ∷ hub (codes "product") ∷ [];
  links = link (codes "visited") (0 ∷ 1 ∷ []) ∷ link (codes "stocked") (1 ∷ 2 ∷ []) ∷ [];
  feeds =
      feed (codes "visits") (codes "shop") (Link 0) ((codes "CUST" ∷ []) ∷ (codes "REGION" ∷ codes "SITE" ∷ []) ∷ []) [] [] []
      ∷ feed (codes "stocks") (codes "shop") (Link 1) ((codes "REGION" ∷ codes "SITE" ∷ []) ∷ (codes "PROD" ∷ []) ∷ []) [] [] []
      ∷ [];
  paths = record { name = codes "found"; feeds = 0 ∷ 1 ∷ []; via = 1 ∷ [] } ∷ [];
}

-- a link of three hubs, and a path from it over its last hub
abbrev pub with_owners : Mapping
with_owners = record {
  hubs = hub (codes "employee") ∷ hub (codes "department") ∷ hub (codes "project") ∷ hub (codes "customer") ∷ [];
  links = link (codes "staffs") (0 ∷ 1 ∷ 2 ∷ []) ∷ link (codes "owns") (3 ∷ 2 ∷ []) ∷ [];
  feeds =
      feed (codes "teams") (codes "hr") (Link 0) (columns (codes "EMP" ∷ codes "DEPT" ∷ codes "PROJ" ∷ [])) [] [] []
      ∷ feed (codes "owners") (codes "crm") (Link 1) (columns (codes "CUST" ∷ codes "PROJ" ∷ [])) [] [] []
      ∷ [];
  paths = record { name = codes "served"; feeds = 0 ∷ 1 ∷ []; via = 2 ∷ [] } ∷ [];
}

-- a link of three hubs with two driving keys
abbrev pub with_teams : Mapping
with_teams = record {
  hubs = hub (codes "employee") ∷ hub (codes "department") ∷ hub (codes "project") ∷ [];
  links = link (codes "staffs") (0 ∷ 1 ∷ 2 ∷ []) ∷ [];
  feeds = feed (codes "teams") (codes "hr") (Link 0) (columns (codes "EMP" ∷ codes "DEPT" ∷ codes "PROJ" ∷ [])) [] [] (0 ∷ 1 ∷ []) ∷ [];
  paths = [];
}
