-- Contents and periods read back from tables alone.
use Rattle.std.specs.Prelude.{◌≡◌, true, List, [], ◌∷◌, Some, None, codes, map}
use Rattle.dv_text.specs.Stamps.{open_end}
use Rattle.dv_catalog.specs.declared.entries.Parent.TheVariants.{Hub as HubParent, Link as LinkParent}
use Rattle.dv_catalog.specs.declared.tables.TableId.TheVariants.{Hub, Link, Sat, Multi, Status}
use Rattle.dv_catalog.specs.Mappings.{is_valid}
use Rattle.dv_records.specs.declared.raw_rows.Code.TheVariants.{I, D}
use Rattle.dv_records.specs.declared.stores.Rows.TheVariants.{Hubs, Links, Sats, Multis, Statuses}
use Rattle.dv_records.specs.declared.stores.TableRows.{TableRows}
use Rattle.dv_records.specs.ReadBack.{any_content_read, content_read, key_read, multi_content_read, periods_read, present_parents, refs_read, status_rows_in}
use Rattle.dv_records.specs.States.{are_windows_valid}
use Rattle.dv_records.specs.Vault.{vault}
use Rattle.dv_shown.specs.Mappings.{with_drivers, with_names, with_orders, with_phones}
use Rattle.dv_shown.specs.Windows.{assignments, coming_and_going, crossed_pairs, fewer_phones, orders, phones}
use Rattle.dv_shown.specs.Words.{day, described_row, in_hub, in_link, in_multi, in_sat, in_status, key, leap_day, mirrored, named_row, pair_row, plain, row, year_2030}

-- the tables of orders, one of them by nobody, which goes for a day; the link's row of it has the zero key for its customer
abbrev pub order_tables : List TableRows
order_tables =
    record { table = Hub 0; rows = Hubs (in_hub (codes "1") 1 (codes "shop.placements") ∷ []) }
    ∷ record { table = Hub 1; rows = Hubs (in_hub (codes "O1") 1 (codes "shop.placements") ∷ in_hub (codes "O2") 1 (codes "shop.placements") ∷ []) }
    ∷ record {
      table = Link 0;
      rows = Links (
          in_link (codes "1") (codes "O1") 1 (codes "shop.placements")
          ∷ record { digest = codes ";O2"; load = day 1; source = codes "shop.placements"; hubs = (0 ∷ []) ∷ codes "O2" ∷ [] } ∷ []);
    }
    ∷ record {
      table = Status 0;
      rows = Statuses (
          in_status (codes "1;O1") 1 (codes "shop.placements") I
          ∷ in_status (codes ";O2") 1 (codes "shop.placements") I
          ∷ in_status (codes ";O2") 2 (codes "shop.placements") D
          ∷ in_status (codes ";O2") 3 (codes "shop.placements") I ∷ []);
    }
    ∷ []

-- the tables of two customers; one goes, and comes again with another name
abbrev pub name_tables : List TableRows
name_tables =
    record { table = Hub 0; rows = Hubs (in_hub (codes "1") 1 (codes "crm.customers") ∷ in_hub (codes "2") 1 (codes "crm.customers") ∷ []) }
    ∷ record {
      table = Sat 0;
      rows = Sats (
          in_sat (codes "1") 1 (codes "crm.customers") (codes "abc")
          ∷ in_sat (codes "2") 1 (codes "crm.customers") (codes "x")
          ∷ in_sat (codes "1") 3 (codes "crm.customers") (codes "axe") ∷ []);
    }
    ∷ record {
      table = Status 0;
      rows = Statuses (
          in_status (codes "1") 1 (codes "crm.customers") I
          ∷ in_status (codes "2") 1 (codes "crm.customers") I
          ∷ in_status (codes "1") 2 (codes "crm.customers") D
          ∷ in_status (codes "1") 3 (codes "crm.customers") I ∷ []);
    }
    ∷ []

pub record ReadBackHolds : Type 0 where
  -- a link's feed with a missing reference
  pub missing_key : key_read with_orders order_tables 0 (0 ∷ []) ≡ key []
  pub key_there : key_read with_orders order_tables 0 (codes "1") ≡ key (codes "1")
  pub missing_reference : refs_read with_orders order_tables (LinkParent 0) (codes ";O2") ≡ Some (key [] ∷ key (codes "O2") ∷ [])
  pub of_hub : refs_read with_orders order_tables (HubParent 1) (codes "O2") ≡ Some (key (codes "O2") ∷ [])
  pub unknown : refs_read with_orders order_tables (HubParent 1) (codes "O3") ≡ None
  pub both_present : present_parents (status_rows_in 0 order_tables) (day 1) ≡ codes "1;O1" ∷ codes ";O2" ∷ []
  pub orders_before : content_read with_orders order_tables 0 leap_day ≡ []
  pub orders_first : content_read with_orders order_tables 0 (day 1) ≡ pair_row [] (codes "O2") ∷ pair_row (codes "1") (codes "O1") ∷ []
  pub orders_second : content_read with_orders order_tables 0 (day 2) ≡ pair_row (codes "1") (codes "O1") ∷ []
  pub orders_again : content_read with_orders order_tables 0 year_2030 ≡ pair_row [] (codes "O2") ∷ pair_row (codes "1") (codes "O1") ∷ []
  -- a hub's feed with attributes: one goes, and comes again with another one
  pub names_first : content_read with_names name_tables 0 (day 1) ≡ named_row (codes "1") (codes "abc") ∷ named_row (codes "2") (codes "x") ∷ []
  pub names_second : content_read with_names name_tables 0 (day 2) ≡ named_row (codes "2") (codes "x") ∷ []
  pub names_third : content_read with_names name_tables 0 (day 3) ≡ named_row (codes "1") (codes "axe") ∷ named_row (codes "2") (codes "x") ∷ []
  -- the same attribute comes again without a row in the satellite
  pub comes : content_read with_names (vault with_names plain coming_and_going) 0 (day 1) ≡ named_row (codes "1") (codes "abc") ∷ []
  pub goes : content_read with_names (vault with_names plain coming_and_going) 0 (day 2) ≡ []
  pub comes_again : content_read with_names (vault with_names plain coming_and_going) 0 (day 3) ≡ named_row (codes "1") (codes "abc") ∷ []
  -- a link's feed with attributes
  pub lines : content_read with_orders (vault with_orders plain orders) 1 (day 1) ≡
      described_row (codes "O1") (codes "P1") (codes "3")
      ∷ described_row (codes "O1") (codes "P2") (codes "2")
      ∷ described_row (codes "O2") (codes "P2") (codes "1")
      ∷ []
  pub no_feed : content_read with_orders order_tables 2 (day 1) ≡ []
  -- the periods of a link's feed, in the order of their references, whatever that of their hash keys
  pub periods_before : periods_read with_drivers (vault with_drivers plain assignments) 0 leap_day ≡ []
  pub periods_second : periods_read with_drivers (vault with_drivers plain assignments) 0 (day 2) ≡
      record { refs = map key (codes "1" ∷ codes "P" ∷ []); begin = day 1; end = day 2 }
      ∷ record { refs = map key (codes "1" ∷ codes "Q" ∷ []); begin = day 2; end = open_end }
      ∷ []
  pub periods_third : periods_read with_drivers (vault with_drivers plain assignments) 0 year_2030 ≡
      record { refs = map key (codes "1" ∷ codes "P" ∷ []); begin = day 1; end = day 2 }
      ∷ record { refs = map key (codes "1" ∷ codes "P" ∷ []); begin = day 3; end = open_end }
      ∷ record { refs = map key (codes "1" ∷ codes "Q" ∷ []); begin = day 2; end = day 3 }
      ∷ []
  pub periods_crossed : periods_read with_drivers (vault with_drivers mirrored crossed_pairs) 0 (day 1) ≡
      record { refs = map key (codes "1" ∷ codes "P2" ∷ []); begin = day 1; end = open_end }
      ∷ record { refs = map key (codes "2" ∷ codes "P1" ∷ []); begin = day 1; end = open_end }
      ∷ []
  pub no_periods : periods_read with_drivers (vault with_drivers plain assignments) 1 (day 3) ≡ []

-- the tables of a customer's numbers: one of three changes, and then one is left
abbrev pub phone_tables : List TableRows
phone_tables =
    record { table = Hub 0; rows = Hubs (in_hub (codes "1") 1 (codes "crm.phones") ∷ []) }
    ∷ record {
      table = Multi 0;
      rows = Multis (
          in_multi (codes "1") 1 (codes "crm.phones") (codes "fax") (codes "12")
          ∷ in_multi (codes "1") 1 (codes "crm.phones") (codes "home") (codes "10")
          ∷ in_multi (codes "1") 1 (codes "crm.phones") (codes "work") (codes "11")
          ∷ in_multi (codes "1") 2 (codes "crm.phones") (codes "fax") (codes "12")
          ∷ in_multi (codes "1") 2 (codes "crm.phones") (codes "home") (codes "10")
          ∷ in_multi (codes "1") 2 (codes "crm.phones") (codes "work") (codes "21")
          ∷ in_multi (codes "1") 3 (codes "crm.phones") (codes "home") (codes "10") ∷ []);
    }
    ∷ record { table = Status 0; rows = Statuses (in_status (codes "1") 1 (codes "crm.phones") I ∷ []) }
    ∷ []

pub record MultiReadBackHolds : Type 0 where
  pub before : multi_content_read with_phones phone_tables 0 leap_day ≡ []
  pub first : multi_content_read with_phones phone_tables 0 (day 1) ≡
      row (codes "1" ∷ []) (codes "fax" ∷ []) (codes "12" ∷ [])
      ∷ row (codes "1" ∷ []) (codes "home" ∷ []) (codes "10" ∷ [])
      ∷ row (codes "1" ∷ []) (codes "work" ∷ []) (codes "11" ∷ [])
      ∷ []
  pub second : multi_content_read with_phones phone_tables 0 (day 2) ≡
      row (codes "1" ∷ []) (codes "fax" ∷ []) (codes "12" ∷ [])
      ∷ row (codes "1" ∷ []) (codes "home" ∷ []) (codes "10" ∷ [])
      ∷ row (codes "1" ∷ []) (codes "work" ∷ []) (codes "21" ∷ [])
      ∷ []
  pub third : multi_content_read with_phones phone_tables 0 year_2030 ≡ row (codes "1" ∷ []) (codes "home" ∷ []) (codes "10" ∷ []) ∷ []
  -- of two owners one loses a number
  pub fewer : multi_content_read with_phones (vault with_phones plain fewer_phones) 0 (day 2) ≡
      row (codes "1" ∷ []) (codes "work" ∷ []) (codes "11" ∷ [])
      ∷ row (codes "2" ∷ []) (codes "fax" ∷ []) (codes "20" ∷ [])
      ∷ []
  -- any feed, whether it has a sub or not
  pub with_sub : any_content_read with_phones phone_tables 0 year_2030 ≡ row (codes "1" ∷ []) (codes "home" ∷ []) (codes "10" ∷ []) ∷ []
  pub without_sub : any_content_read with_names name_tables 0 (day 2) ≡ named_row (codes "2") (codes "x") ∷ []
  pub no_feed : any_content_read with_names name_tables 1 (day 2) ≡ []

-- what reading back asks of mappings and windows holds of these
pub record ReadBackMeets : Type 0 where
  pub names_mapping : is_valid with_names ≡ true
  pub names_windows : are_windows_valid with_names plain coming_and_going ≡ true
  pub orders_mapping : is_valid with_orders ≡ true
  pub orders_windows : are_windows_valid with_orders plain orders ≡ true
  pub phones_mapping : is_valid with_phones ≡ true
  pub phones_windows : are_windows_valid with_phones plain phones ≡ true
  pub drivers_mapping : is_valid with_drivers ≡ true
  pub drivers_windows : are_windows_valid with_drivers plain assignments ≡ true
