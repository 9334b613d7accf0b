-- Mapping files: which fault is the first, and which mappings are valid.
use Rattle.std.specs.Prelude.{◌≡◌, ℕ, Ok, Err, Bool, true, false, List, [], ◌∷◌, ◌++◌, Some, None, codes, map, replicate}
use Rattle.dv_catalog.specs.declared.map_error.MapError.TheVariants.{Shape, NameTwice, KeyCount, ColumnTwice, SubWithoutAttrs, PathBroken, TooMany, NameForm}
use Rattle.dv_catalog.specs.declared.outlines.FeedOutline.{FeedOutline}
use Rattle.dv_catalog.specs.declared.outlines.LinkOutline.{LinkOutline}
use Rattle.dv_catalog.specs.declared.outlines.Outline.{Outline}
use Rattle.dv_catalog.specs.declared.outlines.PathOutline.{PathOutline}
use Rattle.dv_catalog.specs.declared.entries.Parent.TheVariants.{Link}
use Rattle.dv_catalog.specs.declared.tables.TableId.{TableId}
use Rattle.dv_catalog.specs.declared.tables.TableId.TheVariants.{Hub as HubTable, Link as LinkTable, Sat, Multi, Status, Effect}
use Rattle.dv_shown.specs.CheckExamples.{a_with_b, customer_feed, hubs, names, pairs, three_hubs, with_sub}
use Rattle.dv_catalog.specs.Checks.{fault_of}
use Rattle.dv_catalog.specs.Mappings.{is_valid, is_valid_driver, mapping_of}
use Rattle.dv_catalog.specs.MappingFiles.{read_mapping}
use Rattle.dv_catalog.specs.TableLookups.{is_table_of}
use Rattle.dv_shown.specs.Mappings.{bare, customers, with_customers_and_sites, with_drivers, with_names, with_orders, with_phones, with_sites}
use Rattle.dv_shown.specs.Stepped.{bare_file, other_file}
use Rattle.dv_shown.specs.SampleOutlines.{customers_with, hub, hub_feed, link, link_feed, outline, path, placements_then_lines, sold_by}

-- a hub of two parts, and a feed of it with these key columns
abbrev pub sites_by : List (List ℕ) → Outline
sites_by columns =
    outline (record (hub (codes "site")) { parts = 2 } ∷ []) [] (record (hub_feed (codes "sites") (codes "site") (codes "SITE") []) { keys = columns ∷ [] } ∷ []) []

-- so many links of the hubs a and b, feeds of the hub a, and paths over the pairs
abbrev pub links : ℕ → List LinkOutline
links count = map (λ name. link name (codes "a" ∷ codes "b" ∷ [])) (names count)

abbrev pub feeds : ℕ → List FeedOutline
feeds count = map (λ name. hub_feed name (codes "a") (codes "K") []) (names count)

abbrev pub paths : ℕ → List PathOutline
paths count = map (λ name. path name (codes "pairs" ∷ []) []) (names count)

-- a link of five hubs, and a feed of it with these attributes
abbrev pub five : LinkOutline
five = link (codes "five") (names 5)

abbrev pub of_five : List (List ℕ) → FeedOutline
of_five attrs = link_feed (codes "pairs") (codes "five") (map (λ name. name ∷ []) (names 5)) attrs []

-- the first fault of several
pub record FaultsDeclared : Type 0 where
  pub hub_before_link : fault_of (outline (hub (codes "a") ∷ hub (codes "a") ∷ []) (a_with_b ∷ a_with_b ∷ []) [] []) ≡ Some (NameTwice (codes "a"))
  pub link_before_feed : fault_of (outline three_hubs (a_with_b ∷ a_with_b ∷ []) (pairs [] [] ∷ pairs [] [] ∷ []) []) ≡ Some (NameTwice (codes "ab"))
  pub feed_before_path : fault_of (outline three_hubs (a_with_b ∷ []) (pairs [] [] ∷ pairs [] [] ∷ []) (paths 1 ++ paths 1)) ≡ Some (NameTwice (codes "pairs"))
  pub two_parts : fault_of (sites_by (codes "REGION" ∷ codes "SITE" ∷ [])) ≡ None
  pub one_of_two_parts : fault_of (sites_by (codes "REGION" ∷ [])) ≡ Some (KeyCount (codes "sites"))
  pub sub_and_attribute : fault_of (customers_with (with_sub (customer_feed (codes "KIND" ∷ [])))) ≡ Some (ColumnTwice (codes "customers") (codes "KIND"))
  pub sub_before_attribute : fault_of (outline three_hubs (a_with_b ∷ []) (record (pairs (codes "B" ∷ []) []) { sub = codes "A" ∷ [] } ∷ []) []) ≡ Some (ColumnTwice (codes "pairs") (codes "A"))
  pub third_feed : fault_of (sold_by (codes "placements" ∷ codes "lines" ∷ codes "lines" ∷ []) (codes "sales_order" ∷ codes "customer" ∷ [])) ≡ Some (PathBroken (codes "sold"))
  pub joined_thrice : fault_of (sold_by (codes "placements" ∷ codes "lines" ∷ codes "lines" ∷ []) (codes "sales_order" ∷ codes "product" ∷ [])) ≡ None
  pub many_hubs_and_links : fault_of (outline (hubs 33 ++ three_hubs) (links 33) [] []) ≡ Some (TooMany (codes "hubs"))
  pub many_links_and_feeds : fault_of (outline three_hubs (links 33) (feeds 65) []) ≡ Some (TooMany (codes "links"))
  pub many_feeds_and_paths : fault_of (outline three_hubs (a_with_b ∷ []) (pairs [] [] ∷ feeds 64) (paths 17)) ≡ Some (TooMany (codes "feeds"))
  pub many_paths_and_references : fault_of (outline (hubs 5) (five ∷ []) (of_five [] ∷ []) (paths 17)) ≡ Some (TooMany (codes "paths"))
  pub many_references_and_columns : fault_of (outline (hubs 5) (five ∷ []) (of_five (map (λ name. 65 ∷ name) (names 28)) ∷ []) []) ≡ Some (TooMany (codes "references"))
  pub each_part_counts :
      fault_of (
      outline
      (record (hub (codes "site")) { parts = 2 } ∷ [])
      []
      (record (hub_feed (codes "sites") (codes "site") (codes "SITE") (names 31)) { keys = (codes "REGION" ∷ codes "SITE" ∷ []) ∷ [] } ∷ [])
      [])
      ≡ Some (TooMany (codes "columns"))
  pub many_ignored_and_steps :
      fault_of (
      outline
      three_hubs
      (a_with_b ∷ [])
      (record (pairs [] []) { ignore = names 65 } ∷ [])
      (path (codes "p") (replicate 5 (codes "pairs")) (replicate 4 (codes "a")) ∷ []))
      ≡ Some (TooMany (codes "ignored"))
  pub link_form : fault_of (outline three_hubs (link (codes "AB") (codes "a" ∷ codes "b" ∷ []) ∷ []) [] []) ≡ Some (NameForm (codes "AB"))
  pub feed_form : fault_of (customers_with (hub_feed (codes "Customers") (codes "customer") (codes "CUST_NO") [])) ≡ Some (NameForm (codes "Customers"))
  pub path_form : fault_of (outline three_hubs (a_with_b ∷ []) (pairs [] [] ∷ []) (path (codes "P") (codes "pairs" ∷ []) [] ∷ [])) ≡ Some (NameForm (codes "P"))
  pub form_of_hub_first : fault_of (outline (hub (codes "A") ∷ three_hubs) (link (codes "L") (codes "a" ∷ codes "b" ∷ []) ∷ []) [] []) ≡ Some (NameForm (codes "A"))
  pub form_of_link_first : fault_of (outline three_hubs (link (codes "L") (codes "a" ∷ codes "b" ∷ []) ∷ []) (hub_feed (codes "F") (codes "a") (codes "K") [] ∷ []) []) ≡ Some (NameForm (codes "L"))
  pub form_of_feed_first :
      fault_of (outline three_hubs (a_with_b ∷ []) (pairs [] [] ∷ hub_feed (codes "F") (codes "a") (codes "K") [] ∷ []) (path (codes "P") (codes "pairs" ∷ []) [] ∷ []))
      ≡ Some (NameForm (codes "F"))
  pub form_of_name_first : fault_of (customers_with (record (hub_feed (codes "F") (codes "customer") (codes "K") []) { source = codes "S" })) ≡ Some (NameForm (codes "F"))

-- whether what an outline declares is a valid mapping
abbrev pub valid : Outline → Bool
valid outline = is_valid (mapping_of outline)

-- mappings that are valid, and such that are not
pub record MappingsDeclared : Type 0 where
  pub joined_thrice : valid (sold_by (codes "placements" ∷ codes "lines" ∷ codes "lines" ∷ []) (codes "sales_order" ∷ codes "product" ∷ [])) ≡ true
  pub third_feed : valid (sold_by (codes "placements" ∷ codes "lines" ∷ codes "lines" ∷ []) (codes "sales_order" ∷ codes "customer" ∷ [])) ≡ false
  pub hub_too_many : valid (sold_by placements_then_lines (codes "sales_order" ∷ codes "product" ∷ [])) ≡ false
  pub path_of_hub : valid (outline (hub (codes "customer") ∷ []) [] (customer_feed [] ∷ []) (path (codes "p") (codes "customers" ∷ []) [] ∷ [])) ≡ false
  pub link_form : valid (outline three_hubs (link (codes "AB") (codes "a" ∷ codes "b" ∷ []) ∷ []) [] []) ≡ false
  pub feed_form : valid (customers_with (hub_feed (codes "Customers") (codes "customer") (codes "CUST_NO") [])) ≡ false
  pub path_form : valid (outline three_hubs (a_with_b ∷ []) (pairs [] [] ∷ []) (path (codes "P") (codes "pairs" ∷ []) [] ∷ [])) ≡ false
  pub two_parts : valid (sites_by (codes "REGION" ∷ codes "SITE" ∷ [])) ≡ true
  pub ignored_twice : valid (customers_with (record (customer_feed []) { ignore = codes "CUST_NO" ∷ [] })) ≡ false
  pub unknown_hub_no_column : valid (customers_with (record (hub_feed (codes "customers") (codes "client") (codes "CUST_NO") []) { keys = [] ∷ [] })) ≡ false
  pub driven_hub : is_valid_driver (record customers { keys = (codes "A" ∷ []) ∷ (codes "B" ∷ []) ∷ []; driver = 0 ∷ [] }) ≡ false
  pub driven_link : is_valid_driver (record customers { parent = Link 0; keys = (codes "A" ∷ []) ∷ (codes "B" ∷ []) ∷ []; driver = 0 ∷ [] }) ≡ true
  pub driving_unknown : valid (outline three_hubs (a_with_b ∷ []) (pairs [] (codes "x" ∷ []) ∷ []) []) ≡ false

-- whether the hub, link or feed of a table is in a mapping of three hubs, two links, two feeds and one path
abbrev pub are_tables : List TableId → List Bool
are_tables tables = map (is_table_of with_orders) tables

-- the tables of a mapping
pub record TablesDeclared : Type 0 where
  pub hubs_there : are_tables (HubTable 0 ∷ HubTable 2 ∷ HubTable 3 ∷ []) ≡ true ∷ true ∷ false ∷ []
  pub links_there : are_tables (LinkTable 0 ∷ LinkTable 1 ∷ LinkTable 2 ∷ []) ≡ true ∷ true ∷ false ∷ []
  pub satellites_there : are_tables (Sat 1 ∷ Sat 2 ∷ []) ≡ true ∷ false ∷ []
  pub multi_active_there : are_tables (Multi 1 ∷ Multi 2 ∷ []) ≡ true ∷ false ∷ []
  pub statuses_there : are_tables (Status 1 ∷ Status 2 ∷ []) ≡ true ∷ false ∷ []
  pub effects_there : are_tables (Effect 1 ∷ Effect 2 ∷ []) ≡ true ∷ false ∷ []

-- a link of two hubs and a feed of it, up to its driving keys
abbrev pub staff_file : List ℕ
staff_file =
    codes "[[hub]]\nname = \"employee\"\nparts = 1\n[[hub]]\nname = \"department\"\nparts = 1\n"
    ++ codes "[[link]]\nname = \"works\"\nhubs = [\"employee\", \"department\"]\n"
    ++ codes "[[feed]]\nname = \"assignments\"\nsource = \"hr\"\nlink = \"works\"\nkeys = [[\"EMP\"], [\"DEPT\"]]\n"

-- whole files
pub record FilesDeclared : Type 0 where
  pub read : read_mapping bare_file ≡ Ok bare
  pub not_checked : read_mapping (bare_file ++ codes "attrs = [\"CUST_NO\"]\n") ≡ Err (ColumnTwice (codes "customers") (codes "CUST_NO"))
  pub not_formed : read_mapping (codes "hub = 3\n") ≡ Err (Shape (codes "hub"))
  pub attributes : read_mapping (bare_file ++ codes "attrs = [\"NAME\"]\n") ≡ Ok with_names
  pub nothing_listed : read_mapping (bare_file ++ codes "attrs = []\nsub = []\ndriver = []\n") ≡ Ok bare
  pub two_hubs : read_mapping other_file ≡ Ok with_customers_and_sites
  pub two_parts :
      read_mapping (codes "[[hub]]\nname = \"site\"\nparts = 2\n[[feed]]\nname = \"sites\"\nsource = \"geo\"\nhub = \"site\"\nkeys = [[\"REGION\", \"SITE\"]]\n")
      ≡ Ok with_sites
  pub several_rows :
      read_mapping (codes "[[hub]]\nname = \"customer\"\nparts = 1\n[[feed]]\nname = \"phones\"\nsource = \"crm\"\nhub = \"customer\"\nkeys = [[\"CUST_NO\"]]\nsub = [\"KIND\"]\nattrs = [\"PHONE\"]\n")
      ≡ Ok with_phones
  pub driving_key : read_mapping (staff_file ++ codes "driver = [\"employee\"]\n") ≡ Ok with_drivers
  pub path :
      read_mapping (staff_file ++ codes "driver = [\"employee\"]\n[[path]]\nname = \"worked\"\nfeeds = [\"assignments\"]\nvia = []\n")
      ≡ Ok (record with_drivers { paths = record { name = codes "worked"; feeds = 0 ∷ []; via = [] } ∷ [] })
  pub sub_alone : read_mapping (bare_file ++ codes "sub = [\"KIND\"]\n") ≡ Err (SubWithoutAttrs (codes "customers"))
