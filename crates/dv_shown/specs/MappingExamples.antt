-- Worked examples: what mapping files declare, and the first fault of others.
use Rattle.std.specs.Prelude.{◌≡◌, ℕ, ◌<◌, ◌≤◌, List, [], ◌∷◌, ◌++◌, codes, length, replicate, Result, Ok, Err}
use Rattle.dv_catalog.specs.declared.map_error.MapError.{MapError}
use Rattle.dv_catalog.specs.declared.map_error.MapError.TheVariants.{Text, Shape}
use Rattle.dv_catalog.specs.declared.outlines.Outline.{Outline}
use Rattle.dv_catalog.specs.declared.outlines.HubOutline.{HubOutline}
use Rattle.dv_catalog.specs.declared.outlines.FeedOutline.{FeedOutline}
use Rattle.dv_catalog.specs.declared.outlines.ParentName.{ParentName}
use Rattle.dv_catalog.specs.declared.outlines.ParentName.TheVariants.{Hub, Link}
use Rattle.dv_catalog.specs.Documents.{document_of, mapping_document}
use Rattle.dv_catalog.specs.Shapes.{outline_in}

-- of a file that declares nothing
abbrev pub nothing : Outline
nothing = record { hubs = []; links = []; feeds = []; paths = [] }

-- a hub by its name and parts
abbrev pub hub : List ℕ → ℕ → HubOutline
hub name parts = record { name = name; parts = parts }

-- a feed with keys alone
abbrev pub feed : List ℕ → List ℕ → ParentName → List (List (List ℕ)) → FeedOutline
feed name source parent keys =
    record { name = name; source = source; parent = parent; keys = keys; sub = []; attrs = []; ignore = []; driver = [] }

-- the refusal of a file whose first fault stands at this place
abbrev pub fault : List ℕ → Result Outline MapError
fault place = Err (Shape place)

-- a hub, as it stands in a file
abbrev pub customer : List ℕ
customer = codes "[[hub]]\nname = \"customer\"\nparts = 1\n"

-- a feed of it
abbrev pub customers : List ℕ
customers = codes "[[feed]]\nname = \"customers\"\nsource = \"crm\"\nhub = \"customer\"\nkeys = [[\"CUST_NO\"]]\n"

-- a link
abbrev pub works : List ℕ
works = codes "[[link]]\nname = \"works\"\nhubs = [\"employee\", \"department\"]\n"

-- a feed up to its parent
abbrev pub phones : List ℕ
phones = codes "[[feed]]\nname = \"phones\"\nsource = \"crm\"\n"

-- a feed whose attribute has this name
abbrev pub attribute : List ℕ → List ℕ
attribute name = customers ++ codes "attrs = [\"" ++ name ++ codes "\"]\n"

-- a path
abbrev pub path : List ℕ
path = codes "[[path]]\nname = \"sold\"\nfeeds = [\"placements\", \"lines\"]\nvia = [\"sales_order\"]\n"

-- files that are read
pub record OutlinesHold : Type 0 where
  pub empty_file : outline_in [] ≡ Ok nothing
  pub hub_and_feed : outline_in (customer ++ customers) ≡ Ok (record nothing {
    hubs = hub (codes "customer") 1 ∷ [];
    feeds = feed (codes "customers") (codes "crm") (Hub (codes "customer")) ((codes "CUST_NO" ∷ []) ∷ []) ∷ [];
  })
  pub key_of_two_parts : outline_in (codes "[[hub]]\nname = \"site\"\nparts = 2\n[[feed]]\nname = \"sites\"\nsource = \"geo\"\nhub = \"site\"\nkeys = [[\"REGION\", \"SITE\"]]\n")
      ≡ Ok (record nothing {
        hubs = hub (codes "site") 2 ∷ [];
        feeds = feed (codes "sites") (codes "geo") (Hub (codes "site")) ((codes "REGION" ∷ codes "SITE" ∷ []) ∷ []) ∷ [];
      })
  pub link_with_driver : outline_in (works ++ codes "[[feed]]\nname = \"assignments\"\nsource = \"hr\"\nlink = \"works\"\nkeys = [[\"EMP\"], [\"DEPT\"]]\ndriver = [\"employee\"]\n")
      ≡ Ok (record nothing {
        links = record { name = codes "works"; hubs = codes "employee" ∷ codes "department" ∷ [] } ∷ [];
        feeds = record (feed (codes "assignments") (codes "hr") (Link (codes "works")) ((codes "EMP" ∷ []) ∷ (codes "DEPT" ∷ []) ∷ [])) {
          driver = codes "employee" ∷ [];
        } ∷ [];
      })
  pub columns_of_each_use : outline_in (phones ++ codes "hub = \"customer\"\nkeys = [[\"CUST_NO\"]]\nsub = [\"KIND\"]\nattrs = [\"PHONE\", \"SINCE\"]\nignore = [\"CLERK\"]\n")
      ≡ Ok (record nothing {
        feeds = record (feed (codes "phones") (codes "crm") (Hub (codes "customer")) ((codes "CUST_NO" ∷ []) ∷ [])) {
          sub = codes "KIND" ∷ [];
          attrs = codes "PHONE" ∷ codes "SINCE" ∷ [];
          ignore = codes "CLERK" ∷ [];
        } ∷ [];
      })
  pub path_of_two_feeds : outline_in path
      ≡ Ok (record nothing {
        paths = record { name = codes "sold"; feeds = codes "placements" ∷ codes "lines" ∷ []; via = codes "sales_order" ∷ [] } ∷ [];
      })
  pub keys_in_any_order : outline_in (codes "[[hub]]\nparts = 1\nname = \"customer\"\n") ≡ outline_in customer
  pub kinds_in_any_order : outline_in (customers ++ customer) ≡ outline_in (customer ++ customers)
  pub tables_in_line : outline_in (codes "hub = [{name = \"customer\", parts = 1}]\n") ≡ outline_in customer
  pub lists_empty : outline_in (customers ++ codes "sub = []\nattrs = []\nignore = []\ndriver = []\n") ≡ outline_in customers
  pub driver_of_any_text : outline_in (customers ++ codes "driver = [\" a\"]\n") ≡ Ok (record nothing {
    feeds = record (feed (codes "customers") (codes "crm") (Hub (codes "customer")) ((codes "CUST_NO" ∷ []) ∷ [])) { driver = codes " a" ∷ [] } ∷ [];
  })
  pub longest_column : outline_in (attribute (replicate 200 65)) ≡ Ok (record nothing {
    feeds = record (feed (codes "customers") (codes "crm") (Hub (codes "customer")) ((codes "CUST_NO" ∷ []) ∷ [])) { attrs = replicate 200 65 ∷ [] } ∷ [];
  })

-- files that are no document
pub record TextsHold : Type 0 where
  pub no_toml : outline_in (codes "hub = \n") ≡ Err Text
  pub key_twice : outline_in (codes "[[hub]]\nname = \"a\"\nname = \"b\"\nparts = 9\n") ≡ Err Text
  pub no_utf8 : outline_in (codes "# " ++ 255 ∷ []) ≡ Err Text
  pub too_long : (bytes : List ℕ) → 1_048_576 < length bytes → outline_in bytes ≡ Err Text
  pub long : (bytes : List ℕ) → length bytes ≤ 1_048_576 → mapping_document bytes ≡ document_of bytes

-- files with a fault in the keys of an entry
pub record EntryFaultsHold : Type 0 where
  pub hub_name_lacks : outline_in (codes "[[hub]]\nparts = 1\n") ≡ fault (codes "hub 1 name")
  pub hub_name_no_text : outline_in (codes "[[hub]]\nname = 3\nparts = 1\n") ≡ fault (codes "hub 1 name")
  pub hub_parts_lack : outline_in (codes "[[hub]]\nname = \"a\"\n") ≡ fault (codes "hub 1 parts")
  pub hub_parts_no_number : outline_in (codes "[[hub]]\nname = \"a\"\nparts = \"1\"\n") ≡ fault (codes "hub 1 parts")
  pub hub_parts_zero : outline_in (codes "[[hub]]\nname = \"a\"\nparts = 0\n") ≡ fault (codes "hub 1 parts")
  pub hub_parts_five : outline_in (codes "[[hub]]\nname = \"a\"\nparts = 5\n") ≡ fault (codes "hub 1 parts")
  pub hub_parts_below_zero : outline_in (codes "[[hub]]\nname = \"a\"\nparts = -1\n") ≡ fault (codes "hub 1 parts")
  pub hub_key_unknown : outline_in (customer ++ codes "kind = \"x\"\n") ≡ fault (codes "hub 1 kind")
  pub hub_keys_unknown : outline_in (customer ++ codes "z = 1\nb = 1\nB = 1\n") ≡ fault (codes "hub 1 B")
  pub hub_tenth : outline_in (customer ++ customer ++ customer ++ customer ++ customer ++ customer ++ customer ++ customer ++ customer ++ codes "[[hub]]\n")
      ≡ fault (codes "hub 10 name")
  pub link_hubs_lack : outline_in (codes "[[link]]\nname = \"a\"\n") ≡ fault (codes "link 1 hubs")
  pub link_hubs_no_list : outline_in (codes "[[link]]\nname = \"a\"\nhubs = \"b\"\n") ≡ fault (codes "link 1 hubs")
  pub link_hubs_no_texts : outline_in (codes "[[link]]\nname = \"a\"\nhubs = [\"b\", 3]\n") ≡ fault (codes "link 1 hubs")
  pub link_key_unknown : outline_in (works ++ codes "parts = 1\n") ≡ fault (codes "link 1 parts")
  pub feed_source_lacks : outline_in (codes "[[feed]]\nname = \"a\"\nhub = \"b\"\nkeys = [[\"K\"]]\n") ≡ fault (codes "feed 1 source")
  pub feed_neither_parent : outline_in (phones ++ codes "keys = [[\"K\"]]\n") ≡ fault (codes "feed 1 hub")
  pub feed_both_parents : outline_in (phones ++ codes "hub = \"a\"\nlink = \"b\"\nkeys = [[\"K\"]]\n") ≡ fault (codes "feed 1 hub")
  pub feed_both_no_texts : outline_in (phones ++ codes "hub = \"a\"\nlink = 3\nkeys = [[\"K\"]]\n") ≡ fault (codes "feed 1 hub")
  pub feed_hub_no_text : outline_in (phones ++ codes "hub = 3\nkeys = [[\"K\"]]\n") ≡ fault (codes "feed 1 hub")
  pub feed_link_no_text : outline_in (phones ++ codes "link = 3\nkeys = [[\"K\"]]\n") ≡ fault (codes "feed 1 link")
  pub feed_keys_lack : outline_in (customers ++ phones ++ codes "hub = \"a\"\n") ≡ fault (codes "feed 2 keys")
  pub feed_keys_no_lists : outline_in (phones ++ codes "hub = \"a\"\nkeys = [\"K\"]\n") ≡ fault (codes "feed 1 keys")
  pub feed_keys_no_columns : outline_in (phones ++ codes "hub = \"a\"\nkeys = [[\"K\"], [\"\"]]\n") ≡ fault (codes "feed 1 keys")
  pub feed_keys_no_texts : outline_in (phones ++ codes "hub = \"a\"\nkeys = [[\"K\", 3]]\n") ≡ fault (codes "feed 1 keys")
  pub feed_sub_no_list : outline_in (customers ++ codes "sub = \"A\"\n") ≡ fault (codes "feed 1 sub")
  pub feed_sub_no_column : outline_in (customers ++ codes "sub = [\"A\", \"B \"]\n") ≡ fault (codes "feed 1 sub")
  pub feed_attrs_no_texts : outline_in (customers ++ codes "attrs = [\"A\", true]\n") ≡ fault (codes "feed 1 attrs")
  pub feed_ignore_no_texts : outline_in (customers ++ codes "ignore = [[\"A\"]]\n") ≡ fault (codes "feed 1 ignore")
  pub feed_ignore_no_column : outline_in (customers ++ codes "ignore = [\"\"]\n") ≡ fault (codes "feed 1 ignore")
  pub feed_driver_no_texts : outline_in (customers ++ codes "driver = [1.5]\n") ≡ fault (codes "feed 1 driver")
  pub feed_key_unknown : outline_in (customers ++ codes "columns = []\n") ≡ fault (codes "feed 1 columns")
  pub column_empty : outline_in (attribute []) ≡ fault (codes "feed 1 attrs")
  pub column_too_long : outline_in (attribute (replicate 201 65)) ≡ fault (codes "feed 1 attrs")
  pub column_blank_before : outline_in (attribute (codes " NAME")) ≡ fault (codes "feed 1 attrs")
  pub column_blank_after : outline_in (attribute (codes "NAME\\t")) ≡ fault (codes "feed 1 attrs")
  pub path_feeds_lack : outline_in (codes "[[path]]\nname = \"a\"\nvia = []\n") ≡ fault (codes "path 1 feeds")
  pub path_via_lacks : outline_in (codes "[[path]]\nname = \"a\"\nfeeds = [\"b\"]\n") ≡ fault (codes "path 1 via")
  pub path_key_unknown : outline_in (path ++ codes "hub = 1\n") ≡ fault (codes "path 1 hub")

-- files with a fault at the top, or with several faults, of which the first place is named
pub record FirstFaultsHold : Type 0 where
  pub top_no_list : outline_in (codes "hub = 3\n") ≡ fault (codes "hub")
  pub top_one_table : outline_in (codes "[link]\nname = \"a\"\n") ≡ fault (codes "link")
  pub top_no_table_in_list : outline_in (codes "path = [{name = \"a\"}, 3]\n") ≡ fault (codes "path")
  pub top_key_unknown : outline_in (codes "version = 1\n") ≡ fault (codes "version")
  pub top_before_entries : outline_in (codes "zone = 1\n[[hub]]\n") ≡ fault (codes "zone")
  pub top_hub_first : outline_in (codes "path = 1\nfeed = 1\nlink = 1\nhub = 1\n") ≡ fault (codes "hub")
  pub top_link_first : outline_in (codes "path = 1\nfeed = 1\nlink = 1\n") ≡ fault (codes "link")
  pub top_feed_first : outline_in (codes "path = 1\nfeed = 1\n") ≡ fault (codes "feed")
  pub top_known_first : outline_in (codes "a = 1\npath = 1\n") ≡ fault (codes "path")
  pub hubs_first : outline_in (codes "[[path]]\n[[feed]]\n[[link]]\n[[hub]]\n") ≡ fault (codes "hub 1 name")
  pub links_first : outline_in (codes "[[path]]\n[[feed]]\n[[link]]\n") ≡ fault (codes "link 1 name")
  pub feeds_first : outline_in (codes "[[path]]\n[[feed]]\n") ≡ fault (codes "feed 1 name")
  pub entry_first : outline_in (customer ++ codes "kind = 1\n[[hub]]\n") ≡ fault (codes "hub 1 kind")
  pub path_name_first : outline_in (codes "[[path]]\n") ≡ fault (codes "path 1 name")
  pub path_feeds_first : outline_in (codes "[[path]]\nname = \"a\"\n") ≡ fault (codes "path 1 feeds")
  pub feed_source_first : outline_in (codes "[[feed]]\nname = \"a\"\n") ≡ fault (codes "feed 1 source")
  pub feed_parent_first : outline_in (phones ++ codes "hub = 3\nkeys = 3\n") ≡ fault (codes "feed 1 hub")
  pub feed_keys_first : outline_in (phones ++ codes "hub = \"a\"\nkeys = 3\nsub = 3\n") ≡ fault (codes "feed 1 keys")
  pub feed_sub_first : outline_in (customers ++ codes "sub = 3\nattrs = 3\n") ≡ fault (codes "feed 1 sub")
  pub feed_attrs_first : outline_in (customers ++ codes "attrs = 3\nignore = 3\n") ≡ fault (codes "feed 1 attrs")
  pub feed_ignore_first : outline_in (customers ++ codes "ignore = 3\ndriver = 3\n") ≡ fault (codes "feed 1 ignore")
  pub hub_known_first : outline_in (codes "[[hub]]\na = 1\nname = \"a\"\n") ≡ fault (codes "hub 1 parts")
  pub link_known_first : outline_in (codes "[[link]]\na = 1\nname = \"a\"\n") ≡ fault (codes "link 1 hubs")
  pub path_known_first : outline_in (codes "[[path]]\na = 1\nname = \"a\"\nfeeds = []\n") ≡ fault (codes "path 1 via")
  pub feed_known_first : outline_in (customers ++ codes "driver = 3\na = 1\n") ≡ fault (codes "feed 1 driver")
