-- Bridges by the raw tables, and the join on hash keys.
use Rattle.std.specs.Prelude.{◌≡◌, true, false, [], ◌∷◌, ◌++◌, codes, map, replicate}
use Rattle.dv_records.specs.Vault.{vault}
use Rattle.dv_bridge.specs.BridgeRows.{first_row, next_rows}
use Rattle.dv_bridge.specs.BridgeTables.{bridge_read, feed_links, place_of}
use Rattle.dv_bridge.specs.ZeroKeys.{is_zero}
use Rattle.dv_shown.specs.Mappings.{with_channels, with_imports, with_orders, with_owners, with_stocks, with_suppliers}
use Rattle.dv_shown.specs.Windows.{orders, owned, shared_order, stocked, supplied, ten_customers, two_channels}
use Rattle.dv_shown.specs.Words.{day, leap_day, plain}

pub record BridgesRead : Type 0 where
  -- neighbours share the order, and a row with a missing customer stands in none
  pub joined : bridge_read with_orders (vault with_orders plain orders) (day 1) (0 ∷ 1 ∷ []) (1 ∷ []) ≡
      record { links = codes "1;O1" ∷ codes "O1;P1" ∷ []; hubs = codes "1" ∷ codes "O1" ∷ codes "O1" ∷ codes "P1" ∷ [] }
      ∷ record { links = codes "1;O1" ∷ codes "O1;P2" ∷ []; hubs = codes "1" ∷ codes "O1" ∷ codes "O1" ∷ codes "P2" ∷ [] }
      ∷ []
  pub missing_left_out : map first_row (feed_links with_orders (vault with_orders plain orders) (day 1) 0) ≡
      record { links = codes "1;O1" ∷ []; hubs = codes "1" ∷ codes "O1" ∷ [] } ∷ []
  pub before : bridge_read with_orders (vault with_orders plain orders) leap_day (0 ∷ 1 ∷ []) (1 ∷ []) ≡ []
  -- over a hub whose keys have two parts
  pub two_parts : bridge_read with_stocks (vault with_stocks plain stocked) (day 1) (0 ∷ 1 ∷ []) (1 ∷ []) ≡
      record { links = codes "1;NORTH;A" ∷ codes "NORTH;A;P1" ∷ []; hubs = codes "1" ∷ codes "NORTH;A" ∷ codes "NORTH;A" ∷ codes "P1" ∷ [] } ∷ []
  -- the same feed twice
  pub one_feed_twice : bridge_read with_imports (vault with_imports plain shared_order) (day 1) (0 ∷ 0 ∷ []) (1 ∷ []) ≡
      record { links = codes "1;O1" ∷ codes "1;O1" ∷ []; hubs = codes "1" ∷ codes "O1" ∷ codes "1" ∷ codes "O1" ∷ [] }
      ∷ record { links = codes "1;O1" ∷ codes "2;O1" ∷ []; hubs = codes "1" ∷ codes "O1" ∷ codes "2" ∷ codes "O1" ∷ [] }
      ∷ record { links = codes "2;O1" ∷ codes "1;O1" ∷ []; hubs = codes "2" ∷ codes "O1" ∷ codes "1" ∷ codes "O1" ∷ [] }
      ∷ record { links = codes "2;O1" ∷ codes "2;O1" ∷ []; hubs = codes "2" ∷ codes "O1" ∷ codes "2" ∷ codes "O1" ∷ [] }
      ∷ record { links = codes "2;O2" ∷ codes "2;O2" ∷ []; hubs = codes "2" ∷ codes "O2" ∷ codes "2" ∷ codes "O2" ∷ [] }
      ∷ []
  -- a link of three hubs: notices a place of a hub that is counted in another link
  pub three_hubs : bridge_read with_owners (vault with_owners plain owned) (day 1) (0 ∷ 1 ∷ []) (2 ∷ []) ≡
      record { links = codes "1;P;X" ∷ codes "C;X" ∷ []; hubs = codes "1" ∷ codes "P" ∷ codes "X" ∷ codes "C" ∷ codes "X" ∷ [] }
      ∷ record { links = codes "1;Q;X" ∷ codes "C;X" ∷ []; hubs = codes "1" ∷ codes "Q" ∷ codes "X" ∷ codes "C" ∷ codes "X" ∷ [] }
      ∷ []
  -- in the order of the links' hash keys
  pub by_links : bridge_read with_orders (vault with_orders plain ten_customers) (day 1) (0 ∷ 1 ∷ []) (1 ∷ []) ≡
      record { links = codes "10;O2" ∷ codes "O2;P2" ∷ []; hubs = codes "10" ∷ codes "O2" ∷ codes "O2" ∷ codes "P2" ∷ [] }
      ∷ record { links = codes "1;O1" ∷ codes "O1;P1" ∷ []; hubs = codes "1" ∷ codes "O1" ∷ codes "O1" ∷ codes "P1" ∷ [] }
      ∷ []
  -- three feeds: all neighbours share
  pub three_feeds : bridge_read with_suppliers (vault with_suppliers plain supplied) (day 1) (0 ∷ 1 ∷ 2 ∷ []) (1 ∷ 2 ∷ []) ≡
      record { links = codes "1;O1" ∷ codes "O1;P1" ∷ codes "P1;S1" ∷ []; hubs = codes "1" ∷ codes "O1" ∷ codes "O1" ∷ codes "P1" ∷ codes "P1" ∷ codes "S1" ∷ [] }
      ∷ record { links = codes "1;O2" ∷ codes "O2;P2" ∷ codes "P2;S2" ∷ []; hubs = codes "1" ∷ codes "O2" ∷ codes "O2" ∷ codes "P2" ∷ codes "P2" ∷ codes "S2" ∷ [] }
      ∷ []
  -- a reference list of several rows is one link
  pub taken_once : bridge_read with_channels (vault with_channels plain two_channels) (day 1) (0 ∷ 1 ∷ []) (1 ∷ []) ≡
      record { links = codes "1;O1" ∷ codes "O1;P1" ∷ []; hubs = codes "1" ∷ codes "O1" ∷ codes "O1" ∷ codes "P1" ∷ [] } ∷ []
  -- the step alone, and a place behind the last hub, which holds no hash key
  pub stepped : next_rows 1 0 (feed_links with_orders (vault with_orders plain orders) (day 1) 1) (map first_row (feed_links with_orders (vault with_orders plain orders) (day 1) 0)) ≡
      bridge_read with_orders (vault with_orders plain orders) (day 1) (0 ∷ 1 ∷ []) (1 ∷ [])
  pub past_the_row : next_rows 2 0 (feed_links with_orders (vault with_orders plain orders) (day 1) 1) (map first_row (feed_links with_orders (vault with_orders plain orders) (day 1) 0)) ≡ []
  pub past_both : next_rows 2 2 (feed_links with_orders (vault with_orders plain orders) (day 1) 1) (map first_row (feed_links with_orders (vault with_orders plain orders) (day 1) 0)) ≡ []
  pub places : place_of with_owners 0 2 ∷ place_of with_owners 1 2 ∷ place_of with_owners 1 0 ∷ [] ≡ 2 ∷ 1 ∷ 2 ∷ []
  pub zeros : map is_zero (replicate 16 0 ∷ (replicate 15 0 ++ 1 ∷ []) ∷ []) ≡ true ∷ false ∷ []
