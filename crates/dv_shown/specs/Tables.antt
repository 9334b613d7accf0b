-- Raw tables after windows.
use Rattle.std.specs.Prelude.{◌≡◌, ℕ, List, [], ◌∷◌, codes, replicate}
use Rattle.dv_text.specs.Stamps.{open_end}
use Rattle.dv_catalog.specs.declared.tables.TableId.TheVariants.{Hub, Link, Sat, Multi, Status, Effect}
use Rattle.dv_records.specs.declared.raw_rows.Code.TheVariants.{I, D}
use Rattle.dv_records.specs.declared.raw_rows.MultiRow.{MultiRow}
use Rattle.dv_records.specs.declared.stores.Rows.TheVariants.{Hubs, Links, Sats, Multis, Statuses, Effects, Pits, Bridges}
use Rattle.dv_records.specs.Vault.{rows_up_to, table_after, vault}
use Rattle.dv_shown.specs.Mappings.{bare, with_accounts, with_channels, with_drivers, with_imports, with_lines, with_names, with_orders, with_phones, with_placements, with_roles, with_teams}
use Rattle.dv_shown.specs.Windows.{assignments, begun_alike, changed_while_away, coming_and_going, crossed_pairs, exchanged, fewer_phones, imported, kind_renamed, moved_phones, older_again, one_absent, one_again, one_driver_shared}
use Rattle.dv_shown.specs.Windows.{orders, orders_again, phone_added, phone_alike, phones, phones_again, placed_first, promoted, stayed, swapped, there_and_back, tiers, two_channels, two_digits, two_keys}
use Rattle.dv_shown.specs.Words.{after, mirrored, day, in_effect, in_hub, in_link, in_multi, in_sat, in_status, key, leap_day, plain, tiny}
use Rattle.dv_records.specs.Backwards.{backwards}

pub record HubsHold : Type 0 where
  -- a row for each key
  pub two : after bare two_keys (Hub 0) ≡ Hubs (in_hub (codes "A1") 1 (codes "crm.customers") ∷ in_hub (codes "A2") 1 (codes "crm.customers") ∷ [])
  -- none for a key that an earlier window brought, though it vanished since
  pub comes_again : after with_names coming_and_going (Hub 0) ≡ Hubs (in_hub (codes "1") 1 (codes "crm.customers") ∷ [])
  -- the record source is that of the first feed in declared order
  pub two_feeds : after with_accounts tiers (Hub 0) ≡ Hubs (
      in_hub (codes "1") 1 (codes "crm.customers")
      ∷ in_hub (codes "2") 1 (codes "crm.customers")
      ∷ in_hub (codes "3") 1 (codes "shop.accounts") ∷ [])
  pub both_feeds : after with_accounts one_absent (Hub 0) ≡ Hubs (in_hub (codes "1") 1 (codes "crm.customers") ∷ [])
  -- a link's feed delivers its references to their hubs, before the hub's own feed where it is declared before it
  pub by_link : after with_placements placed_first (Hub 0) ≡ Hubs (
      in_hub (codes "1") 1 (codes "shop.placements")
      ∷ in_hub (codes "2") 2 (codes "shop.placements")
      ∷ in_hub (codes "3") 2 (codes "crm.customers") ∷ [])
  -- a missing reference gives no row
  pub none_missing : after with_orders orders (Hub 0) ≡ Hubs (in_hub (codes "1") 1 (codes "shop.placements") ∷ [])
  pub by_two_links : after with_orders orders (Hub 1) ≡ Hubs (
      in_hub (codes "O1") 1 (codes "shop.placements") ∷ in_hub (codes "O2") 1 (codes "shop.placements") ∷ [])
  pub second_place : after with_orders orders (Hub 2) ≡ Hubs (in_hub (codes "P1") 1 (codes "shop.lines") ∷ in_hub (codes "P2") 1 (codes "shop.lines") ∷ [])
  -- by hash key: notices a batch in the order of the keys
  pub by_hash : table_after bare mirrored (backwards two_digits) (Hub 0) ≡ Hubs (
      record { digest = codes "12"; load = day 1; source = codes "crm.customers"; key = key (codes "21") }
      ∷ record { digest = codes "21"; load = day 1; source = codes "crm.customers"; key = key (codes "12") } ∷ [])
  -- of two feeds of a link, each brings its keys: notices a hub that takes those of the first alone
  pub by_two_feeds : after with_imports imported (Hub 0) ≡ Hubs (
      in_hub (codes "1") 1 (codes "shop.placements")
      ∷ in_hub (codes "2") 1 (codes "shop.placements")
      ∷ in_hub (codes "3") 1 (codes "old.imports") ∷ [])

pub record LinksHold : Type 0 where
  -- a list of the second link that comes again has no row again, nor have the keys that it brings
  pub second_link_once : after with_orders orders_again (Link 1) ≡ Links (
      in_link (codes "O1") (codes "P1") 1 (codes "shop.lines")
      ∷ in_link (codes "O1") (codes "P2") 1 (codes "shop.lines")
      ∷ in_link (codes "O2") (codes "P2") 1 (codes "shop.lines") ∷ [])
  pub third_hub_once : after with_orders orders_again (Hub 2) ≡ Hubs (in_hub (codes "P1") 1 (codes "shop.lines") ∷ in_hub (codes "P2") 1 (codes "shop.lines") ∷ [])
  -- the zero key stands for a missing reference
  pub missing_reference : after with_orders orders (Link 0) ≡ Links (
      in_link (codes "1") (codes "O1") 1 (codes "shop.placements")
      ∷ record { digest = codes ";O2"; load = day 1; source = codes "shop.placements"; hubs = (0 ∷ []) ∷ codes "O2" ∷ [] } ∷ [])
  pub own_feed : after with_orders orders (Link 1) ≡ Links (
      in_link (codes "O1") (codes "P1") 1 (codes "shop.lines")
      ∷ in_link (codes "O1") (codes "P2") 1 (codes "shop.lines")
      ∷ in_link (codes "O2") (codes "P2") 1 (codes "shop.lines") ∷ [])
  -- none for a reference list that an earlier window brought
  pub comes_again : after with_drivers assignments (Link 0) ≡ Links (
      in_link (codes "1") (codes "P") 1 (codes "hr.assignments") ∷ in_link (codes "1") (codes "Q") 2 (codes "hr.assignments") ∷ [])
  -- one for the reference list of several rows
  pub several_rows : after with_channels two_channels (Link 0) ≡ Links (in_link (codes "1") (codes "O1") 1 (codes "shop.placements") ∷ [])
  -- two feeds of the link: notices a list that is new again by the other feed, and the source of the last feed
  pub two_feeds : after with_imports imported (Link 0) ≡ Links (
      in_link (codes "1") (codes "O1") 1 (codes "shop.placements")
      ∷ in_link (codes "2") (codes "O2") 1 (codes "shop.placements")
      ∷ in_link (codes "3") (codes "O3") 1 (codes "old.imports") ∷ [])
  -- by hash key: notices a batch in the order of the reference lists
  pub by_hash : table_after with_drivers mirrored (backwards crossed_pairs) (Link 0) ≡ Links (
      record { digest = codes "1P;2"; load = day 1; source = codes "hr.assignments"; hubs = codes "2" ∷ codes "1P" ∷ [] }
      ∷ record { digest = codes "2P;1"; load = day 1; source = codes "hr.assignments"; hubs = codes "1" ∷ codes "2P" ∷ [] } ∷ [])

pub record SatellitesHold : Type 0 where
  -- none where the attributes are those of when the key was last there
  pub once : after with_names coming_and_going (Sat 0) ≡ Sats (in_sat (codes "1") 1 (codes "crm.customers") (codes "abc") ∷ [])
  pub unchanged : after with_names exchanged (Sat 0) ≡ Sats (
      in_sat (codes "2") 1 (codes "crm.customers") (codes "x")
      ∷ in_sat (codes "3") 1 (codes "crm.customers") (codes "x")
      ∷ in_sat (codes "1") 2 (codes "crm.customers") (codes "x") ∷ [])
  -- one for each change, also back to what was there before
  pub there_and_back_again : after with_names there_and_back (Sat 0) ≡ Sats (
      in_sat (codes "1") 1 (codes "crm.customers") (codes "x")
      ∷ in_sat (codes "1") 2 (codes "crm.customers") (codes "y")
      ∷ in_sat (codes "1") 3 (codes "crm.customers") (codes "x") ∷ [])
  -- equal hash differences suppress no change
  pub equal_diffs : table_after with_names tiny (backwards begun_alike) (Sat 0) ≡ Sats (
      record { parent = 49 ∷ replicate 15 1; load = day 1; source = codes "crm.customers"; diff = 97 ∷ replicate 15 1; attrs = codes "abc" ∷ [] }
      ∷ record { parent = 49 ∷ replicate 15 1; load = day 2; source = codes "crm.customers"; diff = 97 ∷ replicate 15 1; attrs = codes "axe" ∷ [] } ∷ [])
  -- after an absence with another attribute: notices a satellite that has a row for a key but once
  pub other_after_absence : after with_names changed_while_away (Sat 0) ≡ Sats (
      in_sat (codes "1") 1 (codes "crm.customers") (codes "x") ∷ in_sat (codes "1") 3 (codes "crm.customers") (codes "y") ∷ [])
  -- after an absence with an older one: notices a satellite that adds nothing where any earlier row has the attributes
  pub older_after_absence : after with_names older_again (Sat 0) ≡ Sats (
      in_sat (codes "1") 1 (codes "crm.customers") (codes "x")
      ∷ in_sat (codes "1") 2 (codes "crm.customers") (codes "y")
      ∷ in_sat (codes "1") 4 (codes "crm.customers") (codes "x") ∷ [])
  -- of a multi-active satellite all rows of a key whose rows changed
  pub all_again : after with_phones phones (Multi 0) ≡ Multis (
      in_multi (codes "1") 1 (codes "crm.phones") (codes "fax") (codes "12")
      ∷ in_multi (codes "1") 1 (codes "crm.phones") (codes "home") (codes "10")
      ∷ in_multi (codes "1") 1 (codes "crm.phones") (codes "work") (codes "11")
      ∷ in_multi (codes "1") 2 (codes "crm.phones") (codes "fax") (codes "12")
      ∷ in_multi (codes "1") 2 (codes "crm.phones") (codes "home") (codes "10")
      ∷ in_multi (codes "1") 2 (codes "crm.phones") (codes "work") (codes "21") ∷ [])
  -- also where a row is gone; by parent before sub
  pub fewer : after with_phones fewer_phones (Multi 0) ≡ Multis (
      in_multi (codes "1") 1 (codes "crm.phones") (codes "home") (codes "10")
      ∷ in_multi (codes "1") 1 (codes "crm.phones") (codes "work") (codes "11")
      ∷ in_multi (codes "2") 1 (codes "crm.phones") (codes "fax") (codes "20")
      ∷ in_multi (codes "1") 2 (codes "crm.phones") (codes "work") (codes "11") ∷ [])

-- a row of the first customer's numbers
abbrev pub phone_row : ℕ → List ℕ → List ℕ → MultiRow
phone_row n kind number = in_multi (codes "1") n (codes "crm.phones") kind number

-- with two columns that tell the rows apart
abbrev pub phone_row_at : ℕ → List ℕ → List ℕ → List ℕ → MultiRow
phone_row_at n kind at number =
    record { parent = codes "1"; load = day n; source = codes "crm.phones"; diff = number; sub = kind ∷ at ∷ []; attrs = number ∷ [] }

-- under digests that see a text's first byte alone
abbrev pub tiny_phone_row : ℕ → List ℕ → MultiRow
tiny_phone_row n number =
    record { parent = 49 ∷ replicate 15 1; load = day n; source = codes "crm.phones"; diff = 49 ∷ replicate 15 1; sub = codes "home" ∷ []; attrs = number ∷ [] }

pub record MultisHold : Type 0 where
  -- the same set after an absence: notices a satellite that compares with the last extract and not the last that held the key
  pub comes_again : after with_phones phones_again (Multi 0) ≡ Multis (phone_row 1 (codes "fax") (codes "12") ∷ phone_row 1 (codes "home") (codes "10") ∷ [])
  -- a lesser set after an absence: notices a satellite that adds new rows alone
  pub one_comes_again : after with_phones one_again (Multi 0) ≡ Multis (
      phone_row 1 (codes "fax") (codes "12") ∷ phone_row 1 (codes "home") (codes "10") ∷ phone_row 3 (codes "home") (codes "10") ∷ [])
  -- attributes swapped between subs: notices a comparison of the attributes as a set of their own
  pub values_swapped : after with_phones swapped (Multi 0) ≡ Multis (
      phone_row 1 (codes "fax") (codes "12")
      ∷ phone_row 1 (codes "home") (codes "10")
      ∷ phone_row 2 (codes "fax") (codes "10")
      ∷ phone_row 2 (codes "home") (codes "12") ∷ [])
  -- another sub with the same attribute: notices a comparison of attributes alone
  pub sub_renamed : after with_phones kind_renamed (Multi 0) ≡ Multis (phone_row 1 (codes "home") (codes "10") ∷ phone_row 2 (codes "work") (codes "10") ∷ [])
  -- a row more: notices a satellite that adds the new row and not all rows of the key
  pub row_added : after with_phones phone_added (Multi 0) ≡ Multis (
      phone_row 1 (codes "home") (codes "10") ∷ phone_row 2 (codes "fax") (codes "12") ∷ phone_row 2 (codes "home") (codes "10") ∷ [])
  -- two columns tell rows apart: notices a satellite that orders or compares by the first alone
  pub two_subs : after with_lines moved_phones (Multi 0) ≡ Multis (
      phone_row_at 1 (codes "fax") (codes "A") (codes "1")
      ∷ phone_row_at 1 (codes "fax") (codes "B") (codes "2")
      ∷ phone_row_at 1 (codes "home") (codes "A") (codes "3")
      ∷ phone_row_at 2 (codes "fax") (codes "A") (codes "1")
      ∷ phone_row_at 2 (codes "fax") (codes "B") (codes "2")
      ∷ phone_row_at 2 (codes "home") (codes "B") (codes "3") ∷ [])
  -- equal hash differences: notices a comparison by hash differences
  pub equal_diffs : table_after with_phones tiny (backwards phone_alike) (Multi 0) ≡ Multis (tiny_phone_row 1 (codes "10") ∷ tiny_phone_row 2 (codes "12") ∷ [])

pub record StatusesHold : Type 0 where
  -- a key appears, vanishes and appears again
  pub codes_alternate : after with_names coming_and_going (Status 0) ≡ Statuses (
      in_status (codes "1") 1 (codes "crm.customers") I
      ∷ in_status (codes "1") 2 (codes "crm.customers") D
      ∷ in_status (codes "1") 3 (codes "crm.customers") I ∷ [])
  -- one appears and one vanishes with one extract
  pub both_codes : after with_names exchanged (Status 0) ≡ Statuses (
      in_status (codes "2") 1 (codes "crm.customers") I
      ∷ in_status (codes "3") 1 (codes "crm.customers") I
      ∷ in_status (codes "1") 2 (codes "crm.customers") I
      ∷ in_status (codes "3") 2 (codes "crm.customers") D ∷ [])
  -- a feed that is absent is no empty extract
  pub absent : after with_accounts one_absent (Status 0) ≡ Statuses (in_status (codes "1") 1 (codes "crm.customers") I ∷ [])
  -- of two feeds of a link each has its own: notices a status table that takes the lists of both
  pub own_feed : after with_imports imported (Status 1) ≡ Statuses (
      in_status (codes "2;O2") 1 (codes "old.imports") I
      ∷ in_status (codes "3;O3") 1 (codes "old.imports") I
      ∷ in_status (codes "1;O1") 2 (codes "old.imports") I
      ∷ in_status (codes "2;O2") 2 (codes "old.imports") D ∷ [])
  -- notices a batch in the order of the keys
  pub by_hash : table_after bare mirrored (backwards two_digits) (Status 0) ≡ Statuses (
      in_status (codes "12") 1 (codes "crm.customers") I ∷ in_status (codes "21") 1 (codes "crm.customers") I ∷ [])

pub record EffectsHold : Type 0 where
  -- an opening row for each run, and a closing one with the run's begin
  pub runs_begin_and_end : after with_drivers assignments (Effect 0) ≡ Effects (
      in_effect (codes "1;P") 1 (codes "hr.assignments") (day 1) open_end
      ∷ in_effect (codes "1;P") 2 (codes "hr.assignments") (day 1) (day 2)
      ∷ in_effect (codes "1;Q") 2 (codes "hr.assignments") (day 2) open_end
      ∷ in_effect (codes "1;P") 3 (codes "hr.assignments") (day 3) open_end
      ∷ in_effect (codes "1;Q") 3 (codes "hr.assignments") (day 2) (day 3) ∷ [])
  -- a window without the feed breaks no run
  pub unbroken : after with_drivers stayed (Effect 0) ≡ Effects (
      in_effect (codes "1;P") 1 (codes "hr.assignments") (day 1) open_end
      ∷ in_effect (codes "1;P") 4 (codes "hr.assignments") (day 1) (day 4) ∷ [])

-- driving keys
pub record DrivenHold : Type 0 where
  -- beside attributes: notices an effectivity table that ends a run where attributes change, and a driven feed without satellite
  pub beside_attributes : vault with_roles plain promoted ≡
      record { table = Hub 0; rows = Hubs (in_hub (codes "1") 1 (codes "hr.assignments") ∷ []) }
      ∷ record { table = Hub 1; rows = Hubs (in_hub (codes "P") 1 (codes "hr.assignments") ∷ in_hub (codes "Q") 3 (codes "hr.assignments") ∷ []) }
      ∷ record {
        table = Link 0;
        rows = Links (
            in_link (codes "1") (codes "P") 1 (codes "hr.assignments") ∷ in_link (codes "1") (codes "Q") 3 (codes "hr.assignments") ∷ []);
      }
      ∷ record {
        table = Sat 0;
        rows = Sats (
            in_sat (codes "1;P") 1 (codes "hr.assignments") (codes "clerk")
            ∷ in_sat (codes "1;P") 2 (codes "hr.assignments") (codes "chief")
            ∷ in_sat (codes "1;Q") 3 (codes "hr.assignments") (codes "chief") ∷ []);
      }
      ∷ record {
        table = Status 0;
        rows = Statuses (
            in_status (codes "1;P") 1 (codes "hr.assignments") I
            ∷ in_status (codes "1;P") 3 (codes "hr.assignments") D
            ∷ in_status (codes "1;Q") 3 (codes "hr.assignments") I ∷ []);
      }
      ∷ record {
        table = Effect 0;
        rows = Effects (
            in_effect (codes "1;P") 1 (codes "hr.assignments") (day 1) open_end
            ∷ in_effect (codes "1;P") 3 (codes "hr.assignments") (day 1) (day 3)
            ∷ in_effect (codes "1;Q") 3 (codes "hr.assignments") (day 3) open_end ∷ []);
      }
      ∷ []
  -- one of two shared: notices an effectivity table that ends a run by the other list's driving key
  pub one_shared : after with_teams one_driver_shared (Effect 0) ≡ Effects (
      in_effect (codes "1;P;X") 1 (codes "hr.teams") (day 1) open_end
      ∷ in_effect (codes "1;Q;Y") 1 (codes "hr.teams") (day 1) open_end
      ∷ in_effect (codes "1;P;X") 2 (codes "hr.teams") (day 1) (day 2)
      ∷ in_effect (codes "1;P;Z") 2 (codes "hr.teams") (day 2) open_end ∷ [])

-- the rows of a table up to a date
pub record UpToHold : Type 0 where
  pub hubs : rows_up_to (day 1) (after with_names exchanged (Hub 0)) ≡ Hubs (in_hub (codes "2") 1 (codes "crm.customers") ∷ in_hub (codes "3") 1 (codes "crm.customers") ∷ [])
  pub links : rows_up_to (day 1) (after with_drivers assignments (Link 0)) ≡ Links (in_link (codes "1") (codes "P") 1 (codes "hr.assignments") ∷ [])
  pub satellites : rows_up_to (day 2) (after with_names there_and_back (Sat 0)) ≡ Sats (
      in_sat (codes "1") 1 (codes "crm.customers") (codes "x") ∷ in_sat (codes "1") 2 (codes "crm.customers") (codes "y") ∷ [])
  pub several_rows : rows_up_to (day 1) (after with_phones phones (Multi 0)) ≡ Multis (
      in_multi (codes "1") 1 (codes "crm.phones") (codes "fax") (codes "12")
      ∷ in_multi (codes "1") 1 (codes "crm.phones") (codes "home") (codes "10")
      ∷ in_multi (codes "1") 1 (codes "crm.phones") (codes "work") (codes "11") ∷ [])
  pub statuses : rows_up_to (day 2) (after with_names coming_and_going (Status 0)) ≡ Statuses (
      in_status (codes "1") 1 (codes "crm.customers") I ∷ in_status (codes "1") 2 (codes "crm.customers") D ∷ [])
  pub effects : rows_up_to (day 2) (after with_drivers assignments (Effect 0)) ≡ Effects (
      in_effect (codes "1;P") 1 (codes "hr.assignments") (day 1) open_end
      ∷ in_effect (codes "1;P") 2 (codes "hr.assignments") (day 1) (day 2)
      ∷ in_effect (codes "1;Q") 2 (codes "hr.assignments") (day 2) open_end ∷ [])
  -- a snapshot's rows have no load dates
  pub cells : rows_up_to leap_day (Pits (record { key = codes "1"; cells = [] } ∷ [])) ≡ Pits (record { key = codes "1"; cells = [] } ∷ [])
  pub bridges : rows_up_to leap_day (Bridges (record { links = []; hubs = [] } ∷ [])) ≡ Bridges (record { links = []; hubs = [] } ∷ [])
