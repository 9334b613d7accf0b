-- Whole vaults, and vaults while a window is loaded.
use Rattle.std.specs.Prelude.{◌≡◌, [], ◌∷◌, codes}
use Rattle.dv_text.specs.Stamps.{open_end}
use Rattle.dv_catalog.specs.declared.tables.TableId.TheVariants.{Hub, Link, Sat, Multi, Status, Effect}
use Rattle.dv_records.specs.declared.raw_rows.Code.TheVariants.{I, D}
use Rattle.dv_records.specs.declared.stores.Rows.TheVariants.{Hubs, Links, Sats, Multis, Statuses, Effects}
use Rattle.dv_records.specs.Vault.{partial, vault}
use Rattle.dv_shown.specs.Mappings.{bare, with_drivers, with_names, with_orders, with_phones}
use Rattle.dv_shown.specs.Windows.{assignments, once, orders, phones, two_keys}
use Rattle.dv_shown.specs.Words.{day, in_effect, in_hub, in_link, in_multi, in_sat, in_status, named_row, plain, staged, window}

pub record VaultsHold : Type 0 where
  -- a feed without attributes has no satellite
  pub keys_alone : vault bare plain two_keys ≡
      record { table = Hub 0; rows = Hubs (in_hub (codes "A1") 1 (codes "crm.customers") ∷ in_hub (codes "A2") 1 (codes "crm.customers") ∷ []) }
      ∷ record { table = Status 0; rows = Statuses (in_status (codes "A1") 1 (codes "crm.customers") I ∷ in_status (codes "A2") 1 (codes "crm.customers") I ∷ []) }
      ∷ []
  -- one with a sub has a multi-active satellite
  pub several_rows : vault with_phones plain phones ≡
      record { table = Hub 0; rows = Hubs (in_hub (codes "1") 1 (codes "crm.phones") ∷ []) }
      ∷ record {
        table = Multi 0;
        rows = Multis (
            in_multi (codes "1") 1 (codes "crm.phones") (codes "fax") (codes "12")
            ∷ in_multi (codes "1") 1 (codes "crm.phones") (codes "home") (codes "10")
            ∷ in_multi (codes "1") 1 (codes "crm.phones") (codes "work") (codes "11")
            ∷ in_multi (codes "1") 2 (codes "crm.phones") (codes "fax") (codes "12")
            ∷ in_multi (codes "1") 2 (codes "crm.phones") (codes "home") (codes "10")
            ∷ in_multi (codes "1") 2 (codes "crm.phones") (codes "work") (codes "21") ∷ []);
      }
      ∷ record { table = Status 0; rows = Statuses (in_status (codes "1") 1 (codes "crm.phones") I ∷ []) }
      ∷ []
  -- one with a driver has an effectivity table
  pub driven : vault with_drivers plain assignments ≡
      record { table = Hub 0; rows = Hubs (in_hub (codes "1") 1 (codes "hr.assignments") ∷ []) }
      ∷ record { table = Hub 1; rows = Hubs (in_hub (codes "P") 1 (codes "hr.assignments") ∷ in_hub (codes "Q") 2 (codes "hr.assignments") ∷ []) }
      ∷ record {
        table = Link 0;
        rows = Links (
            in_link (codes "1") (codes "P") 1 (codes "hr.assignments") ∷ in_link (codes "1") (codes "Q") 2 (codes "hr.assignments") ∷ []);
      }
      ∷ record {
        table = Status 0;
        rows = Statuses (
            in_status (codes "1;P") 1 (codes "hr.assignments") I
            ∷ in_status (codes "1;P") 2 (codes "hr.assignments") D
            ∷ in_status (codes "1;Q") 2 (codes "hr.assignments") I
            ∷ in_status (codes "1;P") 3 (codes "hr.assignments") I
            ∷ in_status (codes "1;Q") 3 (codes "hr.assignments") D ∷ []);
      }
      ∷ record {
        table = Effect 0;
        rows = Effects (
            in_effect (codes "1;P") 1 (codes "hr.assignments") (day 1) open_end
            ∷ in_effect (codes "1;P") 2 (codes "hr.assignments") (day 1) (day 2)
            ∷ in_effect (codes "1;Q") 2 (codes "hr.assignments") (day 2) open_end
            ∷ in_effect (codes "1;P") 3 (codes "hr.assignments") (day 3) open_end
            ∷ in_effect (codes "1;Q") 3 (codes "hr.assignments") (day 2) (day 3) ∷ []);
      }
      ∷ []
  -- hubs, then links, then each feed's tables
  pub linked : vault with_orders plain orders ≡
      record { table = Hub 0; rows = Hubs (in_hub (codes "1") 1 (codes "shop.placements") ∷ []) }
      ∷ record { table = Hub 1; rows = Hubs (in_hub (codes "O1") 1 (codes "shop.placements") ∷ in_hub (codes "O2") 1 (codes "shop.placements") ∷ []) }
      ∷ record { table = Hub 2; rows = Hubs (in_hub (codes "P1") 1 (codes "shop.lines") ∷ in_hub (codes "P2") 1 (codes "shop.lines") ∷ []) }
      ∷ record {
        table = Link 0;
        rows = Links (
            in_link (codes "1") (codes "O1") 1 (codes "shop.placements")
            ∷ record { digest = codes ";O2"; load = day 1; source = codes "shop.placements"; hubs = (0 ∷ []) ∷ codes "O2" ∷ [] } ∷ []);
      }
      ∷ record {
        table = Link 1;
        rows = Links (
            in_link (codes "O1") (codes "P1") 1 (codes "shop.lines")
            ∷ in_link (codes "O1") (codes "P2") 1 (codes "shop.lines")
            ∷ in_link (codes "O2") (codes "P2") 1 (codes "shop.lines") ∷ []);
      }
      ∷ record {
        table = Status 0;
        rows = Statuses (
            in_status (codes "1;O1") 1 (codes "shop.placements") I ∷ in_status (codes ";O2") 1 (codes "shop.placements") I ∷ []);
      }
      ∷ record {
        table = Sat 1;
        rows = Sats (
            in_sat (codes "O1;P1") 1 (codes "shop.lines") (codes "3")
            ∷ in_sat (codes "O1;P2") 1 (codes "shop.lines") (codes "2")
            ∷ in_sat (codes "O2;P2") 1 (codes "shop.lines") (codes "1") ∷ []);
      }
      ∷ record {
        table = Status 1;
        rows = Statuses (
            in_status (codes "O1;P1") 1 (codes "shop.lines") I
            ∷ in_status (codes "O1;P2") 1 (codes "shop.lines") I
            ∷ in_status (codes "O2;P2") 1 (codes "shop.lines") I ∷ []);
      }
      ∷ []
  -- the first of three tables has the batch
  pub first_of_three : partial with_names plain once (window 2 (staged 0 (named_row (codes "2") (codes "x") ∷ []) ∷ [])) 1 ≡
      record { table = Hub 0; rows = Hubs (in_hub (codes "1") 1 (codes "crm.customers") ∷ in_hub (codes "2") 2 (codes "crm.customers") ∷ []) }
      ∷ record { table = Sat 0; rows = Sats (in_sat (codes "1") 1 (codes "crm.customers") (codes "abc") ∷ []) }
      ∷ record { table = Status 0; rows = Statuses (in_status (codes "1") 1 (codes "crm.customers") I ∷ []) }
      ∷ []
  -- the first two
  pub two_of_three : partial with_names plain once (window 2 (staged 0 (named_row (codes "2") (codes "x") ∷ []) ∷ [])) 2 ≡
      record { table = Hub 0; rows = Hubs (in_hub (codes "1") 1 (codes "crm.customers") ∷ in_hub (codes "2") 2 (codes "crm.customers") ∷ []) }
      ∷ record { table = Sat 0; rows = Sats (in_sat (codes "1") 1 (codes "crm.customers") (codes "abc") ∷ in_sat (codes "2") 2 (codes "crm.customers") (codes "x") ∷ []) }
      ∷ record { table = Status 0; rows = Statuses (in_status (codes "1") 1 (codes "crm.customers") I ∷ []) }
      ∷ []
