-- Point-in-time tables, bridges and snapshots.
use Rattle.std.specs.Prelude.{◌≡◌, true, false, [], ◌∷◌, codes, Some, None}
use Rattle.dv_records.specs.declared.snapshots.SnapId.TheVariants.{Pit, Bridge}
use Rattle.dv_records.specs.declared.stores.Rows.TheVariants.{Pits, Bridges}
use Rattle.dv_records.specs.Snapshots.{bridge, pit, snapshot}
use Rattle.dv_shown.specs.Mappings.{bare, with_accounts, with_all_kinds, with_imports, with_names, with_orders, with_owners, with_phones, with_placements, with_stocks}
use Rattle.dv_shown.specs.Windows.{all_kinds, coming_and_going, exchanged, fewer_phones, orders, owned, placed_first, shared_order, stocked, ten_customers, there_and_back, three_days_apart, tiers, tiers_later, two_digits, two_keys}
use Rattle.dv_shown.specs.Words.{mirrored, day, leap_day, plain}

pub record PitsHold : Type 0 where
  -- the load date of the valid satellite row, and whether the key is present
  pub cells : pit with_accounts plain tiers 0 (day 2) ≡
      record { key = codes "1"; cells = record { load = Some (day 1); present = true } ∷ record { load = None; present = false } ∷ [] }
      ∷ record { key = codes "2"; cells = record { load = Some (day 1); present = true } ∷ record { load = Some (day 1); present = true } ∷ [] }
      ∷ record { key = codes "3"; cells = record { load = None; present = false } ∷ record { load = Some (day 1); present = true } ∷ [] }
      ∷ []
  -- it stays where the next extract has the same attributes, or hasn't the key
  pub cells_later : pit with_accounts plain tiers_later 0 (day 2) ≡
      record { key = codes "1"; cells = record { load = Some (day 1); present = true } ∷ record { load = None; present = false } ∷ [] }
      ∷ record { key = codes "2"; cells = record { load = Some (day 1); present = true } ∷ record { load = Some (day 1); present = true } ∷ [] }
      ∷ record { key = codes "3"; cells = record { load = None; present = false } ∷ record { load = Some (day 1); present = false } ∷ [] }
      ∷ []
  pub comes_again : pit with_names plain coming_and_going 0 (day 3) ≡ record { key = codes "1"; cells = record { load = Some (day 1); present = true } ∷ [] } ∷ []
  -- and changes with the attributes, but not before they do
  pub changes : pit with_names plain there_and_back 0 (day 3) ≡ record { key = codes "1"; cells = record { load = Some (day 3); present = true } ∷ [] } ∷ []
  pub not_changed_yet : pit with_names plain there_and_back 0 (day 2) ≡ record { key = codes "1"; cells = record { load = Some (day 2); present = true } ∷ [] } ∷ []
  -- keys that come later have no row yet
  pub earlier : pit with_names plain exchanged 0 (day 1) ≡
      record { key = codes "2"; cells = record { load = Some (day 1); present = true } ∷ [] }
      ∷ record { key = codes "3"; cells = record { load = Some (day 1); present = true } ∷ [] }
      ∷ []
  pub later : pit with_names plain exchanged 0 (day 2) ≡
      record { key = codes "1"; cells = record { load = Some (day 2); present = true } ∷ [] }
      ∷ record { key = codes "2"; cells = record { load = Some (day 1); present = true } ∷ [] }
      ∷ record { key = codes "3"; cells = record { load = Some (day 1); present = false } ∷ [] }
      ∷ []
  -- of a multi-active satellite the load date of the valid rows
  pub several_rows : pit with_phones plain fewer_phones 0 (day 2) ≡
      record { key = codes "1"; cells = record { load = Some (day 2); present = true } ∷ [] }
      ∷ record { key = codes "2"; cells = record { load = Some (day 1); present = true } ∷ [] }
      ∷ []
  -- a feed without attributes has no satellite
  pub no_satellite : pit bare plain two_keys 0 (day 1) ≡
      record { key = codes "A1"; cells = record { load = None; present = true } ∷ [] }
      ∷ record { key = codes "A2"; cells = record { load = None; present = true } ∷ [] }
      ∷ []
  -- keys of links' feeds have rows too
  pub by_link : pit with_placements plain placed_first 0 (day 1) ≡ record { key = codes "1"; cells = record { load = None; present = false } ∷ [] } ∷ []
  -- feeds with an attribute, with a sub and of keys alone: notices a cell of one kind that has another's load date
  pub all_kinds_first : pit with_all_kinds plain all_kinds 0 (day 1) ≡
      record { key = codes "1"; cells = record { load = Some (day 1); present = true } ∷ record { load = Some (day 1); present = true } ∷ record { load = None; present = false } ∷ [] }
      ∷ record { key = codes "2"; cells = record { load = Some (day 1); present = true } ∷ record { load = None; present = false } ∷ record { load = None; present = true } ∷ [] }
      ∷ record { key = codes "3"; cells = record { load = None; present = false } ∷ record { load = Some (day 1); present = true } ∷ record { load = None; present = false } ∷ [] }
      ∷ record { key = codes "4"; cells = record { load = None; present = false } ∷ record { load = None; present = false } ∷ record { load = None; present = true } ∷ [] }
      ∷ []
  -- notices a key that loses its row with its feeds, and a set of rows that is not new where one is gone
  pub all_kinds_later : pit with_all_kinds plain all_kinds 0 (day 2) ≡
      record { key = codes "1"; cells = record { load = Some (day 1); present = true } ∷ record { load = Some (day 2); present = true } ∷ record { load = None; present = false } ∷ [] }
      ∷ record { key = codes "2"; cells = record { load = Some (day 1); present = true } ∷ record { load = None; present = false } ∷ record { load = None; present = false } ∷ [] }
      ∷ record { key = codes "3"; cells = record { load = None; present = false } ∷ record { load = Some (day 1); present = false } ∷ record { load = None; present = false } ∷ [] }
      ∷ record { key = codes "4"; cells = record { load = None; present = false } ∷ record { load = None; present = false } ∷ record { load = None; present = false } ∷ [] }
      ∷ []
  -- notices rows in the order of the keys
  pub by_hash : pit bare mirrored two_digits 0 (day 1) ≡
      record { key = codes "12"; cells = record { load = None; present = true } ∷ [] }
      ∷ record { key = codes "21"; cells = record { load = None; present = true } ∷ [] }
      ∷ []
  -- before the first window, and between two: notices a table of the nearest window
  pub before_first : pit with_names plain three_days_apart 0 leap_day ≡ []
  pub between : pit with_names plain three_days_apart 0 (day 3) ≡ record { key = codes "1"; cells = record { load = Some (day 1); present = true } ∷ [] } ∷ []

pub record SnapshotsHold : Type 0 where
  -- over a hub whose keys have two parts
  pub two_parts : bridge with_stocks plain stocked 0 (day 1) ≡
      record { links = codes "1;NORTH;A" ∷ codes "NORTH;A;P1" ∷ []; hubs = codes "1" ∷ codes "NORTH;A" ∷ codes "NORTH;A" ∷ codes "P1" ∷ [] } ∷ []
  -- the same feed twice: notices a bridge that has a link but once
  pub one_feed_twice : bridge with_imports plain shared_order 0 (day 1) ≡
      record { links = codes "1;O1" ∷ codes "1;O1" ∷ []; hubs = codes "1" ∷ codes "O1" ∷ codes "1" ∷ codes "O1" ∷ [] }
      ∷ record { links = codes "1;O1" ∷ codes "2;O1" ∷ []; hubs = codes "1" ∷ codes "O1" ∷ codes "2" ∷ codes "O1" ∷ [] }
      ∷ record { links = codes "2;O1" ∷ codes "1;O1" ∷ []; hubs = codes "2" ∷ codes "O1" ∷ codes "1" ∷ codes "O1" ∷ [] }
      ∷ record { links = codes "2;O1" ∷ codes "2;O1" ∷ []; hubs = codes "2" ∷ codes "O1" ∷ codes "2" ∷ codes "O1" ∷ [] }
      ∷ record { links = codes "2;O2" ∷ codes "2;O2" ∷ []; hubs = codes "2" ∷ codes "O2" ∷ codes "2" ∷ codes "O2" ∷ [] }
      ∷ []
  -- a link of three hubs: notices a bridge that takes two hubs of each link
  pub three_hubs : bridge with_owners plain owned 0 (day 1) ≡
      record { links = codes "1;P;X" ∷ codes "C;X" ∷ []; hubs = codes "1" ∷ codes "P" ∷ codes "X" ∷ codes "C" ∷ codes "X" ∷ [] }
      ∷ record { links = codes "1;Q;X" ∷ codes "C;X" ∷ []; hubs = codes "1" ∷ codes "Q" ∷ codes "X" ∷ codes "C" ∷ codes "X" ∷ [] }
      ∷ []
  pub bridge_before : bridge with_orders plain orders 0 leap_day ≡ []
  -- the links' hash keys, then all their hubs', feed by feed
  pub bridged : bridge with_orders plain orders 0 (day 1) ≡
      record { links = codes "1;O1" ∷ codes "O1;P1" ∷ []; hubs = codes "1" ∷ codes "O1" ∷ codes "O1" ∷ codes "P1" ∷ [] }
      ∷ record { links = codes "1;O1" ∷ codes "O1;P2" ∷ []; hubs = codes "1" ∷ codes "O1" ∷ codes "O1" ∷ codes "P2" ∷ [] }
      ∷ []
  -- in the order of the links' hash keys, which isn't that of the keys, nor that of the hubs' hash keys
  pub by_links : bridge with_orders plain ten_customers 0 (day 1) ≡
      record { links = codes "10;O2" ∷ codes "O2;P2" ∷ []; hubs = codes "10" ∷ codes "O2" ∷ codes "O2" ∷ codes "P2" ∷ [] }
      ∷ record { links = codes "1;O1" ∷ codes "O1;P1" ∷ []; hubs = codes "1" ∷ codes "O1" ∷ codes "O1" ∷ codes "P1" ∷ [] }
      ∷ []
  -- the hubs and then the paths
  pub whole : snapshot with_orders plain orders (day 1) ≡ record {
    head = record { date = day 1; rows = 7; weight = 1216 };
    tables =
        record { id = Pit 0; rows = Pits (record { key = codes "1"; cells = [] } ∷ []) }
        ∷ record { id = Pit 1; rows = Pits (record { key = codes "O1"; cells = [] } ∷ record { key = codes "O2"; cells = [] } ∷ []) }
        ∷ record { id = Pit 2; rows = Pits (record { key = codes "P1"; cells = [] } ∷ record { key = codes "P2"; cells = [] } ∷ []) }
        ∷ record {
          id = Bridge 0;
          rows = Bridges (
              record { links = codes "1;O1" ∷ codes "O1;P1" ∷ []; hubs = codes "1" ∷ codes "O1" ∷ codes "O1" ∷ codes "P1" ∷ [] }
              ∷ record { links = codes "1;O1" ∷ codes "O1;P2" ∷ []; hubs = codes "1" ∷ codes "O1" ∷ codes "O1" ∷ codes "P2" ∷ [] } ∷ []);
        }
        ∷ [];
  }
  -- three rows of two cells each
  pub head : (snapshot with_accounts plain tiers_later (day 2)).head ≡ record { date = day 2; rows = 3; weight = 480 }
