-- Worked examples of the faults of a mapping, of mappings with names looked up, and of printed faults.
use Rattle.std.specs.Prelude.{◌≡◌, ℕ, ◌+◌, ◌/◌, ◌%◌, ◌++◌, Bool, true, false, List, [], ◌∷◌, Some, None, Ok, codes, drop, map, replicate, take}
use Rattle.std.specs.List.{range_with_len}
use Rattle.dv_catalog.specs.declared.map_error.MapError.TheVariants.{Text, Shape, NameTwice, UnknownHub, UnknownLink, KeyCount, NoKey, ColumnTwice, SubWithoutAttrs, DriverNotInLink, DriverWithSub, PathBroken, TooMany, NameForm, Memory}
use Rattle.dv_catalog.specs.declared.outlines.FeedOutline.{FeedOutline}
use Rattle.dv_catalog.specs.declared.outlines.HubOutline.{HubOutline}
use Rattle.dv_catalog.specs.declared.outlines.LinkOutline.{LinkOutline}
use Rattle.dv_catalog.specs.declared.outlines.Outline.{Outline}
use Rattle.dv_catalog.specs.declared.tables.TableId.TheVariants.{Hub as HubTable, Link as LinkTable, Sat, Multi, Status, Effect}
use Rattle.dv_catalog.specs.Checks.{fault_of}
use Rattle.dv_catalog.specs.Mappings.{checked, has_shape, is_valid, mapping_of}
use Rattle.dv_catalog.specs.MapTexts.{map_error_text}
use Rattle.dv_shown.specs.SampleOutlines.{assignments_by, assignments_mapping, customers, customers_and_accounts, customers_and_accounts_mapping, customers_with, hub, hub_feed, link, link_feed, outline, path, placements_then_lines, sold_by, sold_mapping}
use Rattle.dv_catalog.specs.declared.entries.FeedDef.{FeedDef}
use Rattle.dv_catalog.specs.TableLookups.{table_named}
use Rattle.dv_catalog.specs.Tables.{table_name, tables}

-- so many names of two letters, each once
abbrev pub names : ℕ → List (List ℕ)
names count = map (λ n. (97 + n / 26) ∷ (97 + n % 26) ∷ []) (range_with_len 0 count)

-- so many hubs
abbrev pub hubs : ℕ → List HubOutline
hubs count = map hub (names count)

-- hubs a, b and c
abbrev pub three_hubs : List HubOutline
three_hubs = hub (codes "a") ∷ hub (codes "b") ∷ hub (codes "c") ∷ []

-- a link of a and b
abbrev pub a_with_b : LinkOutline
a_with_b = link (codes "ab") (codes "a" ∷ codes "b" ∷ [])

-- a feed of that link, with attributes and driving keys
abbrev pub pairs : List (List ℕ) → List (List ℕ) → FeedOutline
pairs attrs driver = link_feed (codes "pairs") (codes "ab") ((codes "A" ∷ []) ∷ (codes "B" ∷ []) ∷ []) attrs driver

-- hubs a, b and c, a link of a and b, and these feeds
abbrev pub paired : List FeedOutline → Outline
paired feeds = outline three_hubs (a_with_b ∷ []) feeds []

-- a feed with columns that tell rows apart
abbrev pub with_sub : FeedOutline → FeedOutline
with_sub feed = record feed { sub = codes "KIND" ∷ [] }

abbrev pub customer_feed : List (List ℕ) → FeedOutline
customer_feed attrs = hub_feed (codes "customers") (codes "customer") (codes "CUST_NO") attrs

-- the mappings of files without a fault
pub record MappingsHold : Type 0 where
  pub bare : checked (outline [] [] [] []) ≡ Ok (record { hubs = []; links = []; feeds = []; paths = [] })
  pub two_feeds : checked customers_and_accounts ≡ Ok customers_and_accounts_mapping
  pub driven : checked (assignments_by (codes "employee" ∷ [])) ≡ Ok assignments_mapping
  pub joined : checked (sold_by placements_then_lines (codes "sales_order" ∷ [])) ≡ Ok sold_mapping
  pub driving_reference :
      map
      (λ feed. feed.driver)
      (mapping_of (
      outline
      three_hubs
      (link (codes "cb") (codes "c" ∷ codes "b" ∷ []) ∷ [])
      (link_feed (codes "pairs") (codes "cb") ((codes "C" ∷ []) ∷ (codes "B" ∷ []) ∷ []) [] (codes "c" ∷ []) ∷ [])
      [])).feeds
      ≡ (0 ∷ []) ∷ []
  pub one_step : fault_of (sold_by (codes "lines" ∷ []) []) ≡ None
  pub same_feed_twice : fault_of (sold_by (codes "lines" ∷ codes "lines" ∷ []) (codes "product" ∷ [])) ≡ None
  pub valid_path : is_valid sold_mapping ≡ true
  pub valid_driver : is_valid assignments_mapping ≡ true
  pub formed : has_shape customers_and_accounts ≡ true
  pub four_parts : has_shape (outline (record (hub (codes "a")) { parts = 4 } ∷ []) [] [] []) ≡ true
  pub five_parts : has_shape (outline (record (hub (codes "a")) { parts = 5 } ∷ []) [] [] []) ≡ false
  pub no_part : has_shape (outline (record (hub (codes "a")) { parts = 0 } ∷ []) [] [] []) ≡ false
  pub full_column : has_shape (customers_with (customer_feed (replicate 200 65 ∷ []))) ≡ true
  pub long_column : has_shape (customers_with (customer_feed (replicate 201 65 ∷ []))) ≡ false
  pub blank_column : has_shape (customers_with (customer_feed (codes " NAME" ∷ []))) ≡ false
  pub empty_column : has_shape (customers_with (customer_feed ([] ∷ []))) ≡ false

-- the raw tables of a mapping, in order
pub record TablesHold : Type 0 where
  pub plain : tables customers_and_accounts_mapping ≡ HubTable 0 ∷ Sat 0 ∷ Status 0 ∷ Sat 1 ∷ Status 1 ∷ []
  pub driven : tables assignments_mapping ≡ HubTable 0 ∷ HubTable 1 ∷ LinkTable 0 ∷ Status 0 ∷ Effect 0 ∷ []
  pub driven_and_described :
      tables (record assignments_mapping { feeds = map (λ (feed : FeedDef). record feed { attrs = codes "ROLE" ∷ [] }) assignments_mapping.feeds })
      ≡ HubTable 0 ∷ HubTable 1 ∷ LinkTable 0 ∷ Sat 0 ∷ Status 0 ∷ Effect 0 ∷ []
  pub multi : tables (mapping_of (customers_with (with_sub (customer_feed (codes "PHONE" ∷ []))))) ≡ HubTable 0 ∷ Multi 0 ∷ Status 0 ∷ []
  pub named : map (table_name assignments_mapping) (tables assignments_mapping)
      ≡ codes "hub_employee" ∷ codes "hub_department" ∷ codes "link_works" ∷ codes "status_assignments" ∷ codes "eff_assignments" ∷ []
  pub satellites : map (table_name customers_and_accounts_mapping) (Sat 1 ∷ Multi 0 ∷ []) ≡ codes "sat_accounts" ∷ codes "msat_customers" ∷ []
  pub found : table_named sold_mapping (codes "sat_lines") ≡ Some (Sat 1)
  pub not_found : table_named sold_mapping (codes "sat_placements") ≡ None

-- names that stand twice, and names that are not declared
pub record NamesHold : Type 0 where
  pub no_fault : fault_of customers ≡ None
  pub hub_twice : fault_of (outline (hub (codes "a") ∷ hub (codes "b") ∷ hub (codes "b") ∷ hub (codes "a") ∷ []) [] [] []) ≡ Some (NameTwice (codes "b"))
  pub link_twice : fault_of (outline three_hubs (a_with_b ∷ a_with_b ∷ []) [] []) ≡ Some (NameTwice (codes "ab"))
  pub feed_twice : fault_of (paired (pairs [] [] ∷ pairs [] [] ∷ [])) ≡ Some (NameTwice (codes "pairs"))
  pub path_twice : fault_of (outline three_hubs (a_with_b ∷ []) (pairs [] [] ∷ []) (path (codes "p") (codes "pairs" ∷ []) [] ∷ path (codes "p") (codes "pairs" ∷ []) [] ∷ [])) ≡ Some (NameTwice (codes "p"))
  pub reference_twice : fault_of (outline three_hubs (link (codes "aa") (codes "a" ∷ codes "b" ∷ codes "a" ∷ []) ∷ []) [] []) ≡ Some (NameTwice (codes "a"))
  pub link_by_link : fault_of (outline three_hubs (link (codes "aa") (codes "a" ∷ codes "a" ∷ []) ∷ a_with_b ∷ a_with_b ∷ []) [] []) ≡ Some (NameTwice (codes "a"))
  pub name_before_hubs : fault_of (outline three_hubs (a_with_b ∷ link (codes "ab") (codes "c" ∷ codes "c" ∷ []) ∷ []) [] []) ≡ Some (NameTwice (codes "ab"))
  pub other_kind : fault_of (outline (hub (codes "customer") ∷ []) [] (hub_feed (codes "customer") (codes "customer") (codes "CUST_NO") [] ∷ []) []) ≡ None
  pub hub_unknown : fault_of (customers_with (hub_feed (codes "customers") (codes "client") (codes "CUST_NO") [])) ≡ Some (UnknownHub (codes "client"))
  pub links_before_feeds :
      fault_of (outline three_hubs (link (codes "ax") (codes "a" ∷ codes "x" ∷ []) ∷ []) (hub_feed (codes "f") (codes "y") (codes "K") [] ∷ []) []) ≡ Some (UnknownHub (codes "x"))
  pub link_unknown : fault_of (customers_with (link_feed (codes "customers") (codes "customer") ((codes "CUST_NO" ∷ []) ∷ []) [] [])) ≡ Some (UnknownLink (codes "customer"))

-- keys, columns and driving keys
pub record FeedsHold : Type 0 where
  pub keys_few : fault_of (paired (link_feed (codes "pairs") (codes "ab") ((codes "A" ∷ []) ∷ []) [] [] ∷ [])) ≡ Some (KeyCount (codes "pairs"))
  pub keys_many : fault_of (customers_with (record (customer_feed []) { keys = (codes "A" ∷ []) ∷ (codes "B" ∷ []) ∷ [] })) ≡ Some (KeyCount (codes "customers"))
  pub parts_many : fault_of (customers_with (record (customer_feed []) { keys = (codes "A" ∷ codes "B" ∷ []) ∷ [] })) ≡ Some (KeyCount (codes "customers"))
  pub one_hub : fault_of (outline three_hubs (link (codes "only") (codes "a" ∷ []) ∷ []) [] []) ≡ Some (NoKey (codes "only"))
  pub key_as_attribute : fault_of (customers_with (customer_feed (codes "NAME" ∷ codes "CUST_NO" ∷ []))) ≡ Some (ColumnTwice (codes "customers") (codes "CUST_NO"))
  pub key_twice :
      fault_of (paired (link_feed (codes "pairs") (codes "ab") ((codes "A" ∷ []) ∷ (codes "A" ∷ []) ∷ []) [] [] ∷ [])) ≡ Some (ColumnTwice (codes "pairs") (codes "A"))
  pub ignored_attribute :
      fault_of (customers_with (record (customer_feed (codes "X" ∷ codes "Y" ∷ [])) { ignore = codes "Y" ∷ codes "X" ∷ [] })) ≡ Some (ColumnTwice (codes "customers") (codes "Y"))
  pub sub_alone : fault_of (customers_with (with_sub (customer_feed []))) ≡ Some (SubWithoutAttrs (codes "customers"))
  pub all_driving : fault_of (assignments_by (codes "employee" ∷ codes "department" ∷ [])) ≡ Some (DriverNotInLink (codes "assignments"))
  pub other_hub : fault_of (paired (pairs [] (codes "c" ∷ []) ∷ [])) ≡ Some (DriverNotInLink (codes "pairs"))
  pub undeclared_hub : fault_of (paired (pairs [] (codes "x" ∷ []) ∷ [])) ≡ Some (DriverNotInLink (codes "pairs"))
  pub driving_twice : fault_of (paired (pairs [] (codes "a" ∷ codes "a" ∷ []) ∷ [])) ≡ Some (DriverNotInLink (codes "pairs"))
  pub hub_driven : fault_of (customers_with (record (customer_feed []) { driver = codes "customer" ∷ [] })) ≡ Some (DriverNotInLink (codes "customers"))
  pub driver_and_sub : fault_of (paired (with_sub (pairs (codes "QTY" ∷ []) (codes "a" ∷ [])) ∷ [])) ≡ Some (DriverWithSub (codes "pairs"))

-- paths
pub record PathsHold : Type 0 where
  pub other_hub : fault_of (sold_by placements_then_lines (codes "customer" ∷ [])) ≡ Some (PathBroken (codes "sold"))
  pub last_hub : fault_of (sold_by placements_then_lines (codes "product" ∷ [])) ≡ Some (PathBroken (codes "sold"))
  pub undeclared_hub : fault_of (sold_by placements_then_lines (codes "x" ∷ [])) ≡ Some (PathBroken (codes "sold"))
  pub no_feed : fault_of (sold_by [] []) ≡ Some (PathBroken (codes "sold"))
  pub no_hub : fault_of (sold_by placements_then_lines []) ≡ Some (PathBroken (codes "sold"))
  pub hub_too_many : fault_of (sold_by placements_then_lines (codes "sales_order" ∷ codes "product" ∷ [])) ≡ Some (PathBroken (codes "sold"))
  pub unknown_feed : fault_of (sold_by (codes "sales" ∷ []) []) ≡ Some (PathBroken (codes "sold"))
  pub hub_feed : fault_of (outline (hub (codes "customer") ∷ []) [] (customer_feed [] ∷ []) (path (codes "p") (codes "customers" ∷ []) [] ∷ [])) ≡ Some (PathBroken (codes "p"))

-- the limits, at them and past them
pub record LimitsHold : Type 0 where
  pub hubs_full : fault_of (outline (hubs 32) [] [] []) ≡ None
  pub hubs_over : fault_of (outline (hubs 33) [] [] []) ≡ Some (TooMany (codes "hubs"))
  pub links_full : fault_of (outline three_hubs (map (λ name. link name (codes "a" ∷ codes "b" ∷ [])) (names 32)) [] []) ≡ None
  pub links_over : fault_of (outline three_hubs (map (λ name. link name (codes "a" ∷ codes "b" ∷ [])) (names 33)) [] []) ≡ Some (TooMany (codes "links"))
  pub feeds_full : fault_of (outline (hub (codes "a") ∷ []) [] (map (λ name. hub_feed name (codes "a") (codes "K") []) (names 64)) []) ≡ None
  pub feeds_over : fault_of (outline (hub (codes "a") ∷ []) [] (map (λ name. hub_feed name (codes "a") (codes "K") []) (names 65)) []) ≡ Some (TooMany (codes "feeds"))
  pub paths_full : fault_of (outline three_hubs (a_with_b ∷ []) (pairs [] [] ∷ []) (map (λ name. path name (codes "pairs" ∷ []) []) (names 16))) ≡ None
  pub paths_over : fault_of (outline three_hubs (a_with_b ∷ []) (pairs [] [] ∷ []) (map (λ name. path name (codes "pairs" ∷ []) []) (names 17))) ≡ Some (TooMany (codes "paths"))
  pub references_full : fault_of (outline (hubs 4) (link (codes "four") (names 4) ∷ []) [] []) ≡ None
  pub references_over : fault_of (outline (hubs 5) (link (codes "five") (names 5) ∷ []) [] []) ≡ Some (TooMany (codes "references"))
  pub columns_full : fault_of (customers_with (customer_feed (names 31))) ≡ None
  pub columns_over : fault_of (customers_with (customer_feed (names 32))) ≡ Some (TooMany (codes "columns"))
  pub sub_counts : fault_of (customers_with (record (customer_feed (take 16 (names 32))) { sub = drop 16 (names 32) })) ≡ Some (TooMany (codes "columns"))
  pub ignored_full : fault_of (customers_with (record (customer_feed []) { ignore = names 64 })) ≡ None
  pub ignored_over : fault_of (customers_with (record (customer_feed []) { ignore = names 65 })) ≡ Some (TooMany (codes "ignored"))
  pub steps_full : fault_of (sold_by (replicate 4 (codes "lines")) (replicate 3 (codes "product"))) ≡ None
  pub steps_over : fault_of (sold_by (replicate 5 (codes "lines")) (replicate 4 (codes "product"))) ≡ Some (TooMany (codes "steps"))
  pub columns_before_ignored :
      fault_of (outline (hub (codes "customer") ∷ []) [] (record (customer_feed []) { ignore = names 65 } ∷ hub_feed (codes "accounts") (codes "customer") (codes "K") (names 32) ∷ []) [])
      ≡ Some (TooMany (codes "columns"))
  pub name_full : fault_of (outline (hub (replicate 40 95) ∷ []) [] [] []) ≡ None
  pub name_long : fault_of (outline (hub (replicate 41 95) ∷ []) [] [] []) ≡ Some (NameForm (replicate 41 95))
  pub name_empty : fault_of (outline (hub [] ∷ []) [] [] []) ≡ Some (NameForm [])
  pub name_capital : fault_of (outline (hub (codes "a0_z9") ∷ hub (codes "Ab") ∷ []) [] [] []) ≡ Some (NameForm (codes "Ab"))
  pub source_form : fault_of (customers_with (record (customer_feed []) { source = codes "c-rm" })) ≡ Some (NameForm (codes "c-rm"))

-- two faults in one file: the lower number is answered
pub record OrderHolds : Type 0 where
  pub twice_before_unknown_hub :
      fault_of (outline (hub (codes "a") ∷ hub (codes "a") ∷ []) [] (hub_feed (codes "f") (codes "b") (codes "K") [] ∷ []) []) ≡ Some (NameTwice (codes "a"))
  pub unknown_hub_before_link :
      fault_of (outline [] [] (link_feed (codes "f") (codes "l") [] [] [] ∷ hub_feed (codes "g") (codes "h") (codes "K") [] ∷ []) []) ≡ Some (UnknownHub (codes "h"))
  pub unknown_link_before_keys :
      fault_of (outline (hub (codes "a") ∷ []) [] (record (hub_feed (codes "f") (codes "a") (codes "K") []) { keys = [] } ∷ link_feed (codes "g") (codes "l") [] [] [] ∷ []) [])
      ≡ Some (UnknownLink (codes "l"))
  pub keys_before_few_hubs :
      fault_of (outline (hub (codes "a") ∷ []) (link (codes "l") (codes "a" ∷ []) ∷ []) (link_feed (codes "f") (codes "l") [] [] [] ∷ []) []) ≡ Some (KeyCount (codes "f"))
  pub few_hubs_before_columns :
      fault_of (outline (hub (codes "a") ∷ []) (link (codes "l") (codes "a" ∷ []) ∷ []) (hub_feed (codes "f") (codes "a") (codes "K") (codes "K" ∷ []) ∷ []) []) ≡ Some (NoKey (codes "l"))
  pub columns_before_sub :
      fault_of (outline (hub (codes "a") ∷ []) [] (with_sub (hub_feed (codes "f") (codes "a") (codes "K") []) ∷ hub_feed (codes "g") (codes "a") (codes "K") (codes "K" ∷ []) ∷ []) [])
      ≡ Some (ColumnTwice (codes "g") (codes "K"))
  pub sub_before_driver : fault_of (paired (pairs [] (codes "c" ∷ []) ∷ with_sub (hub_feed (codes "f") (codes "a") (codes "K") []) ∷ [])) ≡ Some (SubWithoutAttrs (codes "f"))
  pub driver_before_sub : fault_of (paired (with_sub (pairs (codes "QTY" ∷ []) (codes "c" ∷ [])) ∷ [])) ≡ Some (DriverNotInLink (codes "pairs"))
  pub driver_sub_before_path :
      fault_of (outline three_hubs (a_with_b ∷ []) (with_sub (pairs (codes "QTY" ∷ []) (codes "a" ∷ [])) ∷ []) (path (codes "p") [] [] ∷ [])) ≡ Some (DriverWithSub (codes "pairs"))
  pub path_before_limits : fault_of (outline (hubs 33) [] [] (path (codes "p") [] [] ∷ [])) ≡ Some (PathBroken (codes "p"))
  pub limits_before_form : fault_of (outline (hub (codes "A") ∷ hubs 32) [] [] []) ≡ Some (TooMany (codes "hubs"))

-- what no mapping of a file is
abbrev pub is_valid_outline : Outline → Bool
is_valid_outline outline = is_valid (mapping_of outline)

pub record InvalidHold : Type 0 where
  pub none : is_valid_outline customers ≡ true
  pub hub_twice : is_valid_outline (outline (hub (codes "a") ∷ hub (codes "a") ∷ []) [] [] []) ≡ false
  pub link_twice : is_valid_outline (outline three_hubs (a_with_b ∷ a_with_b ∷ []) [] []) ≡ false
  pub feed_twice : is_valid_outline (paired (pairs [] [] ∷ pairs [] [] ∷ [])) ≡ false
  pub path_twice :
      is_valid_outline (outline three_hubs (a_with_b ∷ []) (pairs [] [] ∷ []) (path (codes "p") (codes "pairs" ∷ []) [] ∷ path (codes "p") (codes "pairs" ∷ []) [] ∷ []))
      ≡ false
  pub reference_twice : is_valid_outline (outline three_hubs (link (codes "aa") (codes "a" ∷ codes "a" ∷ []) ∷ []) [] []) ≡ false
  pub hub_unknown : is_valid_outline (customers_with (hub_feed (codes "customers") (codes "client") (codes "CUST_NO") [])) ≡ false
  pub reference_unknown : is_valid_outline (outline three_hubs (link (codes "ax") (codes "a" ∷ codes "x" ∷ []) ∷ []) [] []) ≡ false
  pub link_unknown : is_valid_outline (customers_with (link_feed (codes "customers") (codes "customer") [] [] [])) ≡ false
  pub keys_few : is_valid_outline (paired (link_feed (codes "pairs") (codes "ab") ((codes "A" ∷ []) ∷ []) [] [] ∷ [])) ≡ false
  pub parts_many : is_valid_outline (customers_with (record (customer_feed []) { keys = (codes "A" ∷ codes "B" ∷ []) ∷ [] })) ≡ false
  pub no_part : is_valid_outline (outline (record (hub (codes "a")) { parts = 0 } ∷ []) [] [] []) ≡ false
  pub five_parts : is_valid_outline (outline (record (hub (codes "a")) { parts = 5 } ∷ []) [] [] []) ≡ false
  pub one_hub : is_valid_outline (outline three_hubs (link (codes "only") (codes "a" ∷ []) ∷ []) [] []) ≡ false
  pub five_hubs : is_valid_outline (outline (hubs 5) (link (codes "five") (names 5) ∷ []) [] []) ≡ false
  pub column_twice : is_valid_outline (customers_with (customer_feed (codes "CUST_NO" ∷ []))) ≡ false
  pub column_form : is_valid_outline (customers_with (customer_feed (codes " NAME" ∷ []))) ≡ false
  pub sub_alone : is_valid_outline (customers_with (with_sub (customer_feed []))) ≡ false
  pub all_driving : is_valid_outline (assignments_by (codes "employee" ∷ codes "department" ∷ [])) ≡ false
  pub driving_twice : is_valid_outline (paired (pairs [] (codes "a" ∷ codes "a" ∷ []) ∷ [])) ≡ false
  pub other_driving : is_valid_outline (paired (pairs [] (codes "c" ∷ []) ∷ [])) ≡ false
  pub hub_driven : is_valid_outline (customers_with (record (customer_feed []) { driver = codes "customer" ∷ [] })) ≡ false
  pub driver_and_sub : is_valid_outline (paired (with_sub (pairs (codes "QTY" ∷ []) (codes "a" ∷ [])) ∷ [])) ≡ false
  pub other_hub : is_valid_outline (sold_by placements_then_lines (codes "customer" ∷ [])) ≡ false
  pub last_hub : is_valid_outline (sold_by placements_then_lines (codes "product" ∷ [])) ≡ false
  pub no_feed : is_valid_outline (sold_by [] []) ≡ false
  pub no_hub : is_valid_outline (sold_by placements_then_lines []) ≡ false
  pub unknown_feed : is_valid_outline (sold_by (codes "sales" ∷ []) []) ≡ false
  pub five_steps : is_valid_outline (sold_by (replicate 5 (codes "lines")) (replicate 4 (codes "product"))) ≡ false
  pub hubs_over : is_valid_outline (outline (hubs 33) [] [] []) ≡ false
  pub links_over : is_valid_outline (outline three_hubs (map (λ name. link name (codes "a" ∷ codes "b" ∷ [])) (names 33)) [] []) ≡ false
  pub feeds_over : is_valid_outline (outline (hub (codes "a") ∷ []) [] (map (λ name. hub_feed name (codes "a") (codes "K") []) (names 65)) []) ≡ false
  pub paths_over : is_valid_outline (outline three_hubs (a_with_b ∷ []) (pairs [] [] ∷ []) (map (λ name. path name (codes "pairs" ∷ []) []) (names 17))) ≡ false
  pub columns_over : is_valid_outline (customers_with (customer_feed (names 32))) ≡ false
  pub ignored_over : is_valid_outline (customers_with (record (customer_feed []) { ignore = names 65 })) ≡ false
  pub hub_form : is_valid_outline (outline (hub (codes "A") ∷ []) [] [] []) ≡ false
  pub source_form : is_valid_outline (customers_with (record (customer_feed []) { source = codes "c-rm" })) ≡ false

-- printed faults
pub record TextsHold : Type 0 where
  pub text : map_error_text Text ≡ codes "1 Text"
  pub shape : map_error_text (Shape (codes "hub 1 parts")) ≡ codes "2 Shape place=hub 1 parts"
  pub name_twice : map_error_text (NameTwice (codes "customer")) ≡ codes "3 NameTwice name=customer"
  pub unknown_hub : map_error_text (UnknownHub (codes "client")) ≡ codes "4 UnknownHub name=client"
  pub unknown_link : map_error_text (UnknownLink (codes "placed")) ≡ codes "5 UnknownLink name=placed"
  pub key_count : map_error_text (KeyCount (codes "customers")) ≡ codes "6 KeyCount feed=customers"
  pub no_key : map_error_text (NoKey (codes "placed")) ≡ codes "7 NoKey name=placed"
  pub column_twice : map_error_text (ColumnTwice (codes "customers") (codes "CITY")) ≡ codes "8 ColumnTwice feed=customers name=CITY"
  pub sub_without_attrs : map_error_text (SubWithoutAttrs (codes "phones")) ≡ codes "9 SubWithoutAttrs feed=phones"
  pub driver_not_in_link : map_error_text (DriverNotInLink (codes "assignments")) ≡ codes "10 DriverNotInLink feed=assignments"
  pub driver_with_sub : map_error_text (DriverWithSub (codes "assignments")) ≡ codes "11 DriverWithSub feed=assignments"
  pub path_broken : map_error_text (PathBroken (codes "sold")) ≡ codes "12 PathBroken path=sold"
  pub too_many : map_error_text (TooMany (codes "hubs")) ≡ codes "13 TooMany kind=hubs"
  pub control_bytes : map_error_text (NameForm (97 ∷ 0 ∷ 31 ∷ 32 ∷ 127 ∷ 128 ∷ [])) ≡ codes "14 NameForm name=a?? ?" ++ 128 ∷ []
  pub memory : map_error_text Memory ≡ []
