-- Marts and tables as text.
use Rattle.std.specs.Prelude.{◌≡◌, ℕ, List, [], ◌∷◌, ◌++◌, Some, None, Result, Ok, codes}
use Rattle.dv_text.specs.declared.rows.Window.{Window}
use Rattle.dv_catalog.specs.declared.tables.TableId.TheVariants.{Hub as HubTable, Link as LinkTable, Sat, Multi, Status, Effect}
use Rattle.dv_catalog.specs.Entries.{Mapping}
use Rattle.dv_records.specs.Vault.{partial, vault}
use Rattle.dv_mart.specs.MartTexts.{mart_text}
use Rattle.dv_print.specs.Texts.{windows_text}
use Rattle.dv_mart.specs.Whats.{what_of, offered_mart}
use Rattle.dv_print.specs.declared.query_rules.QueryRule.{QueryRule}
use Rattle.dv_mart.specs.declared.whats.What.{What}
use Rattle.dv_mart.specs.declared.whats.What.TheVariants.{Feed, Hub, Path, Period, Table, Pit, Bridge}
use Rattle.dv_shown.specs.Digested.{md5_hashes}
use Rattle.dv_shown.specs.Mappings.{bare, with_accounts, with_drivers, with_names, with_orders, with_paths, with_phones, with_places, with_staff}
use Rattle.dv_shown.specs.Windows.{assignments, coming_and_going, emptied, once, orders, phones, placed_sites, staffed, tiers, tiers_later, two_keys}
use Rattle.dv_shown.specs.Words.{day, leap_day, named_row, plain, staged, window, year_2030}

-- the text of a mart or table of a vault under MD5
abbrev pub digested : Mapping → List Window → What → ℕ → Result (List ℕ) QueryRule
digested mapping windows what date = mart_text mapping md5_hashes windows (vault mapping md5_hashes windows) what date

-- the text of a mart, which no digest changes
abbrev pub written : Mapping → List Window → What → ℕ → Result (List ℕ) QueryRule
written mapping windows what date = mart_text mapping plain windows (vault mapping plain windows) what date

-- a window with one key more
abbrev pub named_later : Window
named_later = window 2 (staged 0 (named_row (codes "1") (codes "abc") ∷ named_row (codes "2") (codes "x") ∷ []) ∷ [])

-- the text of a mart or table while a window is open, of which only the first table has its batch
abbrev pub while_open : What → ℕ → Result (List ℕ) QueryRule
while_open what date = mart_text with_names plain once (partial with_names plain once named_later 1) what date

-- marts
pub record MartsWritten : Type 0 where
  pub keys : written bare two_keys (Feed 0) (day 1) ≡ Ok (codes "CUST_NO\nA1\nA2\n")
  pub emptied_later : written with_names emptied (Feed 0) (day 2) ≡ Ok (codes "CUST_NO,NAME\n")
  pub emptied_before : written with_names emptied (Feed 0) (day 1) ≡ Ok (codes "CUST_NO,NAME\n1,x\n2,y\n")
  pub gone : written with_names coming_and_going (Feed 0) (day 2) ≡ Ok (codes "CUST_NO,NAME\n")
  pub back : written with_names coming_and_going (Feed 0) (day 3) ≡ Ok (codes "CUST_NO,NAME\n1,abc\n")
  pub before_all : written with_names once (Feed 0) leap_day ≡ Ok (codes "CUST_NO,NAME\n")
  pub after_all : written with_names once (Feed 0) year_2030 ≡ Ok (codes "CUST_NO,NAME\n1,abc\n")
  pub several_rows : written with_phones phones (Feed 0) (day 2) ≡ Ok (codes "CUST_NO,KIND,PHONE\n1,fax,12\n1,home,10\n1,work,21\n")
  pub periods : written with_drivers assignments (Period 0) (day 3) ≡
      Ok (codes "EMP,DEPT,begin,end\n1,P,2024-03-01T02:00:00,2024-03-02T02:00:00\n1,P,2024-03-03T02:00:00,9999-12-31T23:59:59\n1,Q,2024-03-02T02:00:00,2024-03-03T02:00:00\n")
  pub missing_key : written with_orders orders (Feed 0) (day 1) ≡ Ok (codes "CUST,ORD\n,O2\n1,O1\n")
  pub path : written with_orders orders (Path 0) (day 1) ≡
      Ok (codes "placements.customer.1,placements.sales_order.1,lines.sales_order.1,lines.product.1\n1,O1,O1,P1\n1,O1,O1,P2\n")
  pub hub : written with_accounts tiers (Hub 0) (day 1) ≡
      Ok (codes "customer.1,customers,customers.NAME,accounts,accounts.TIER\n1,Y,abc,N,\n2,Y,x,Y,gold\n3,N,,Y,tin\n")
  pub second_feed : written with_accounts tiers (Feed 1) (day 1) ≡ Ok (codes "ACCOUNT,TIER\n2,gold\n3,tin\n")
  pub not_sealed_yet : while_open (Feed 0) (day 2) ≡ Ok (codes "CUST_NO,NAME\n1,abc\n")
  pub no_feed : written with_names once (Feed 1) (day 1) ≡ Ok []
  pub with_sub : written with_phones phones (Hub 0) (day 2) ≡ Ok (codes "customer.1,phones\n1,Y\n")
  pub second_hub : written with_places placed_sites (Hub 1) (day 1) ≡ Ok (codes "site.1,site.2,sites,sites.AREA\nNORTH,A,Y,12\n")
  pub second_path : written with_paths orders (Path 1) (day 1) ≡ Ok (codes "lines.sales_order.1,lines.product.1\nO1,P1\nO1,P2\nO2,P2\n")
  pub second_periods : written with_staff staffed (Period 1) (day 1) ≡ Ok (codes "EMP,DEPT,begin,end\n1,P,2024-03-01T02:00:00,9999-12-31T23:59:59\n")

-- raw tables under MD5
pub record TablesWritten : Type 0 where
  pub satellite : digested with_names once (Table (Sat 0)) (day 1) ≡
      Ok (codes "hash_key,load_date,record_source,hash_diff,NAME\nc4ca4238a0b923820dcc509a6f75849b,2024-03-01T02:00:00,crm.customers,900150983cd24fb0d6963f7d28e17f72,abc\n")
  pub hub_table : digested with_names once (Table (HubTable 0)) (day 1) ≡
      Ok (codes "hash_key,load_date,record_source,part_1\nc4ca4238a0b923820dcc509a6f75849b,2024-03-01T02:00:00,crm.customers,1\n")
  pub before : digested with_names once (Table (HubTable 0)) leap_day ≡ Ok (codes "hash_key,load_date,record_source,part_1\n")
  pub with_open_batch : while_open (Table (HubTable 0)) (day 2) ≡
      Ok (codes "hash_key,load_date,record_source,part_1\n31,2024-03-01T02:00:00,crm.customers,1\n32,2024-03-02T02:00:00,crm.customers,2\n")
  pub before_open_batch : while_open (Table (HubTable 0)) (day 1) ≡
      Ok (codes "hash_key,load_date,record_source,part_1\n31,2024-03-01T02:00:00,crm.customers,1\n")
  pub without_open_batch : while_open (Table (Sat 0)) (day 2) ≡
      Ok (codes "hash_key,load_date,record_source,hash_diff,NAME\n31,2024-03-01T02:00:00,crm.customers,616263,abc\n")
  pub two_parts : digested with_places placed_sites (Table (HubTable 1)) (day 1) ≡
      Ok (codes "hash_key,load_date,record_source,part_1,part_2\nf68176e6713113d76b0c996ce9b74a17,2024-03-01T02:00:00,geo.sites,NORTH,A\n")
  pub second_satellite : digested with_places placed_sites (Table (Sat 1)) (day 1) ≡
      Ok (codes "hash_key,load_date,record_source,hash_diff,AREA\nf68176e6713113d76b0c996ce9b74a17,2024-03-01T02:00:00,geo.sites,c20ad4d76fe97759aa27a0c99bff6710,12\n")

-- a link's table, one of whose references is missing, under MD5
pub record LinkWritten : Type 0 where
  pub link : digested with_orders orders (Table (LinkTable 0)) (day 1) ≡
      Ok (codes "hash_key,load_date,record_source,customer,sales_order\n"
      ++ codes "23fffa5d8832e83f92c34efd411ef6b8,2024-03-01T02:00:00,shop.placements,c4ca4238a0b923820dcc509a6f75849b,00594a175ce5a58f286d91ca0a6f15a2\n"
      ++ codes "f8e4c621b87bf9c2bd13f39fb99db41d,2024-03-01T02:00:00,shop.placements,00000000000000000000000000000000,bfc60714f62f15e1e72e0b21454cc99e\n")

-- a multi-active satellite's table under MD5
pub record MultiWritten : Type 0 where
  pub multi : digested with_phones phones (Table (Multi 0)) (day 1) ≡
      Ok (codes "hash_key,load_date,record_source,hash_diff,KIND,PHONE\n"
      ++ codes "c4ca4238a0b923820dcc509a6f75849b,2024-03-01T02:00:00,crm.phones,c20ad4d76fe97759aa27a0c99bff6710,fax,12\n"
      ++ codes "c4ca4238a0b923820dcc509a6f75849b,2024-03-01T02:00:00,crm.phones,d3d9446802a44259755d38e6d163e820,home,10\n"
      ++ codes "c4ca4238a0b923820dcc509a6f75849b,2024-03-01T02:00:00,crm.phones,6512bd43d9caa6e02c990b0a82652dca,work,11\n")

-- an effectivity table under MD5
pub record EffectWritten : Type 0 where
  pub effect : digested with_drivers assignments (Table (Effect 0)) (day 2) ≡
      Ok (codes "hash_key,load_date,record_source,begin,end\n"
      ++ codes "9b2d9134239cd0aa73b0c821ab7cb3ec,2024-03-01T02:00:00,hr.assignments,2024-03-01T02:00:00,9999-12-31T23:59:59\n"
      ++ codes "599d7386e8b3b2d9fcfcc2de7efad9f6,2024-03-02T02:00:00,hr.assignments,2024-03-02T02:00:00,9999-12-31T23:59:59\n"
      ++ codes "9b2d9134239cd0aa73b0c821ab7cb3ec,2024-03-02T02:00:00,hr.assignments,2024-03-01T02:00:00,2024-03-02T02:00:00\n")

-- a bridge under MD5
pub record BridgeWritten : Type 0 where
  pub bridge : digested with_orders orders (Bridge 0) (day 1) ≡
      Ok (codes "snapshot,placements,lines,placements.customer,placements.sales_order,lines.sales_order,lines.product\n"
      ++ codes "2024-03-01T02:00:00,23fffa5d8832e83f92c34efd411ef6b8,18a4b7b879239b85ad5985809c3b32ab,c4ca4238a0b923820dcc509a6f75849b,00594a175ce5a58f286d91ca0a6f15a2,00594a175ce5a58f286d91ca0a6f15a2,5f2b9323c39ee3c861a7b382d205c3d3\n"
      ++ codes "2024-03-01T02:00:00,23fffa5d8832e83f92c34efd411ef6b8,3a5bde4ca1b2244ac79d9444bc895039,c4ca4238a0b923820dcc509a6f75849b,00594a175ce5a58f286d91ca0a6f15a2,00594a175ce5a58f286d91ca0a6f15a2,5890595e16cbebb8866e1842e4bd6ec7\n")

-- the status table of a key that comes and goes, under MD5
pub record StatusWritten : Type 0 where
  pub status : digested with_names coming_and_going (Table (Status 0)) (day 3) ≡
      Ok (codes "hash_key,load_date,record_source,status\nc4ca4238a0b923820dcc509a6f75849b,2024-03-01T02:00:00,crm.customers,I\nc4ca4238a0b923820dcc509a6f75849b,2024-03-02T02:00:00,crm.customers,D\nc4ca4238a0b923820dcc509a6f75849b,2024-03-03T02:00:00,crm.customers,I\n")

-- the point-in-time table of two feeds, under MD5
pub record PitWritten : Type 0 where
  pub cells : digested with_accounts tiers_later (Pit 0) (day 2) ≡
      Ok (codes "hash_key,snapshot,customers.load,customers.present,accounts.load,accounts.present\n"
      ++ codes "c4ca4238a0b923820dcc509a6f75849b,2024-03-02T02:00:00,2024-03-01T02:00:00,Y,,N\n"
      ++ codes "c81e728d9d4c2f636f067f89cc14862c,2024-03-02T02:00:00,2024-03-01T02:00:00,Y,2024-03-01T02:00:00,Y\n"
      ++ codes "eccbc87e4b5ce2fe28308fd9f2a7baf3,2024-03-02T02:00:00,,N,2024-03-01T02:00:00,N\n")
  pub second_hub : digested with_places placed_sites (Pit 1) (day 1) ≡
      Ok (codes "hash_key,snapshot,sites.load,sites.present\nf68176e6713113d76b0c996ce9b74a17,2024-03-01T02:00:00,2024-03-01T02:00:00,Y\n")

-- the windows table, and the words for marts and tables
pub record WordsHold : Type 0 where
  pub windows : windows_text bare (record { load = day 1; feeds = 0 ∷ [] } ∷ []) [] ≡ codes "load_date,state,feeds\n2024-03-01T02:00:00,sealed,customers\n"
  pub open_window : windows_text with_accounts [] (record { load = day 1; feeds = 0 ∷ 1 ∷ [] } ∷ []) ≡ codes "load_date,state,feeds\n2024-03-01T02:00:00,open,customers accounts\n"
  pub sealed_then_open :
      windows_text with_accounts (record { load = day 1; feeds = 0 ∷ [] } ∷ []) (record { load = day 2; feeds = 0 ∷ 1 ∷ [] } ∷ [])
      ≡ codes "load_date,state,feeds\n2024-03-01T02:00:00,sealed,customers\n2024-03-02T02:00:00,open,customers accounts\n"
  pub a_feed : what_of with_accounts (codes "feed:accounts") ≡ Some (Feed 1)
  pub a_hub : what_of with_accounts (codes "hub:customer") ≡ Some (Hub 0)
  pub a_path : what_of with_orders (codes "path:sold") ≡ Some (Path 0)
  pub a_period : what_of with_drivers (codes "period:assignments") ≡ Some (Period 0)
  pub no_driver : what_of with_orders (codes "period:placements") ≡ None
  pub a_table : what_of with_names (codes "table:sat_customers") ≡ Some (Table (Sat 0))
  pub a_pit : what_of with_names (codes "pit:customer") ≡ Some (Pit 0)
  pub unknown : what_of with_names (codes "feed:clients") ≡ None
  pub no_kind : what_of with_names (codes "customers") ≡ None
  pub no_path : what_of with_orders (codes "path:sales") ≡ None
  pub no_bridge : what_of with_orders (codes "bridge:sales") ≡ None
  pub a_feed_is_a_mart : offered_mart with_names (codes "feed:customers") ≡ Some (Feed 0)
  pub a_hub_is_a_mart : offered_mart with_names (codes "hub:customer") ≡ Some (Hub 0)
  pub a_path_is_a_mart : offered_mart with_orders (codes "path:sold") ≡ Some (Path 0)
  pub a_table_is_none : offered_mart with_names (codes "table:sat_customers") ≡ None
  pub a_pit_is_none : offered_mart with_names (codes "pit:customer") ≡ None
  pub a_bridge_is_none : offered_mart with_orders (codes "bridge:sold") ≡ None
  pub no_hub : what_of with_names (codes "hub:customers") ≡ None
  pub no_table : what_of with_names (codes "table:customers") ≡ None
  pub effect_table : what_of with_staff (codes "table:eff_assignments") ≡ Some (Table (Effect 1))
  pub no_effect_table : what_of with_orders (codes "table:eff_placements") ≡ None
  pub second_hub : what_of with_orders (codes "hub:sales_order") ≡ Some (Hub 1)
  pub second_path : what_of with_paths (codes "path:bought") ≡ Some (Path 1)
  pub second_pit : what_of with_orders (codes "pit:product") ≡ Some (Pit 2)
  pub a_bridge : what_of with_orders (codes "bridge:sold") ≡ Some (Bridge 0)
  pub second_bridge : what_of with_paths (codes "bridge:bought") ≡ Some (Bridge 1)
  pub later_driver : what_of with_staff (codes "period:assignments") ≡ Some (Period 1)
  pub other_driver : what_of with_staff (codes "period:staff") ≡ None
  pub no_such_driver : what_of with_staff (codes "period:clients") ≡ None
  pub link_table : what_of with_orders (codes "table:link_contains") ≡ Some (Table (LinkTable 1))
  pub pit_of_feed : what_of with_names (codes "pit:customers") ≡ None
  pub kind_alone : what_of with_names (codes "feed:") ≡ None
