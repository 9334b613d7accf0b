-- Marts of a hub, a path and a feed's periods.
use Rattle.std.specs.Prelude.{◌≡◌, true, false, [], ◌∷◌, codes, map, reverse}
use Rattle.dv_text.specs.Stamps.{open_end}
use Rattle.dv_records.specs.History.{history}
use Rattle.dv_records.specs.Marts.{contents, feed_mart, hub_mart, is_larger, path_mart, period_mart, prefix_rows}
use Rattle.dv_records.specs.Runs.{runs}
use Rattle.dv_shown.specs.Mappings.{sold, with_accounts, with_all_kinds, with_channels, with_imports, with_names, with_orders, with_owners, with_phones, with_placements, with_stocks, with_suppliers}
use Rattle.dv_shown.specs.Windows.{all_kinds, assigned_later, assignments, crossed, emptied, few_lines, orders, orders_emptied, owned, phones, placed_first, shared_order, stayed, stocked, supplied, three_days_apart, tiers, tiers_later, two_channels}
use Rattle.dv_shown.specs.Words.{day, key, leap_day, named_row, place}

pub record HubMartsHold : Type 0 where
  -- a cell for each feed: present with its attributes, or blanks
  pub two_feeds : hub_mart with_accounts tiers 0 (day 1) ≡
      record { key = key (codes "1"); cells = record { present = true; attrs = codes "abc" ∷ [] } ∷ record { present = false; attrs = [] ∷ [] } ∷ [] }
      ∷ record { key = key (codes "2"); cells = record { present = true; attrs = codes "x" ∷ [] } ∷ record { present = true; attrs = codes "gold" ∷ [] } ∷ [] }
      ∷ record { key = key (codes "3"); cells = record { present = false; attrs = [] ∷ [] } ∷ record { present = true; attrs = codes "tin" ∷ [] } ∷ [] }
      ∷ []
  -- a key that no feed of the hub has any more has no row
  pub one_gone : hub_mart with_accounts tiers_later 0 (day 2) ≡
      record { key = key (codes "1"); cells = record { present = true; attrs = codes "abc" ∷ [] } ∷ record { present = false; attrs = [] ∷ [] } ∷ [] }
      ∷ record { key = key (codes "2"); cells = record { present = true; attrs = codes "x" ∷ [] } ∷ record { present = true; attrs = codes "gold" ∷ [] } ∷ [] }
      ∷ []
  pub all_gone : hub_mart with_names emptied 0 (day 2) ≡ []
  -- by key, whichever feed has it
  pub by_key : hub_mart with_accounts crossed 0 (day 1) ≡
      record { key = key (codes "1"); cells = record { present = false; attrs = [] ∷ [] } ∷ record { present = true; attrs = codes "gold" ∷ [] } ∷ [] }
      ∷ record { key = key (codes "2"); cells = record { present = true; attrs = codes "x" ∷ [] } ∷ record { present = false; attrs = [] ∷ [] } ∷ [] }
      ∷ []
  -- a feed with a sub shows no attributes, and a key of several rows has one row
  pub with_sub : hub_mart with_phones phones 0 (day 2) ≡ record { key = key (codes "1"); cells = record { present = true; attrs = [] } ∷ [] } ∷ []
  -- the keys of links' feeds are not the hub's content
  pub own_feeds : hub_mart with_placements placed_first 0 (day 1) ≡ []
  pub own_keys : hub_mart with_placements placed_first 0 (day 2) ≡
      record { key = key (codes "1"); cells = record { present = true; attrs = [] } ∷ [] }
      ∷ record { key = key (codes "2"); cells = record { present = true; attrs = [] } ∷ [] }
      ∷ record { key = key (codes "3"); cells = record { present = true; attrs = [] } ∷ [] }
      ∷ []
  -- feeds with an attribute, with a sub and of keys alone: notices a key that a feed of one kind doesn't bring
  pub all_kinds_first : hub_mart with_all_kinds all_kinds 0 (day 1) ≡
      record { key = key (codes "1"); cells = record { present = true; attrs = codes "abc" ∷ [] } ∷ record { present = true; attrs = [] } ∷ record { present = false; attrs = [] } ∷ [] }
      ∷ record { key = key (codes "2"); cells = record { present = true; attrs = codes "x" ∷ [] } ∷ record { present = false; attrs = [] } ∷ record { present = true; attrs = [] } ∷ [] }
      ∷ record { key = key (codes "3"); cells = record { present = false; attrs = [] ∷ [] } ∷ record { present = true; attrs = [] } ∷ record { present = false; attrs = [] } ∷ [] }
      ∷ record { key = key (codes "4"); cells = record { present = false; attrs = [] ∷ [] } ∷ record { present = false; attrs = [] } ∷ record { present = true; attrs = [] } ∷ [] }
      ∷ []
  -- notices a cell that stays present after its feed is a header alone
  pub all_kinds_later : hub_mart with_all_kinds all_kinds 0 (day 2) ≡
      record { key = key (codes "1"); cells = record { present = true; attrs = codes "abc" ∷ [] } ∷ record { present = true; attrs = [] } ∷ record { present = false; attrs = [] } ∷ [] }
      ∷ record { key = key (codes "2"); cells = record { present = true; attrs = codes "x" ∷ [] } ∷ record { present = false; attrs = [] } ∷ record { present = false; attrs = [] } ∷ [] }
      ∷ []

pub record PathMartsHold : Type 0 where
  -- neighbours share the order, and no reference is missing
  pub joined : path_mart with_orders orders 0 (day 1) ≡
      record { steps = map key (codes "1" ∷ codes "O1" ∷ []) ∷ map key (codes "O1" ∷ codes "P1" ∷ []) ∷ [] }
      ∷ record { steps = map key (codes "1" ∷ codes "O1" ∷ []) ∷ map key (codes "O1" ∷ codes "P2" ∷ []) ∷ [] }
      ∷ []
  -- all neighbours do
  pub three_feeds : path_mart with_suppliers supplied 0 (day 1) ≡
      record { steps = map key (codes "1" ∷ codes "O1" ∷ []) ∷ map key (codes "O1" ∷ codes "P1" ∷ []) ∷ map key (codes "P1" ∷ codes "S1" ∷ []) ∷ [] }
      ∷ record { steps = map key (codes "1" ∷ codes "O2" ∷ []) ∷ map key (codes "O2" ∷ codes "P2" ∷ []) ∷ map key (codes "P2" ∷ codes "S2" ∷ []) ∷ [] }
      ∷ []
  -- a reference list of several rows is taken once
  pub taken_once : path_mart with_channels two_channels 0 (day 1) ≡
      record { steps = map key (codes "1" ∷ codes "O1" ∷ []) ∷ map key (codes "O1" ∷ codes "P1" ∷ []) ∷ [] } ∷ []
  -- a prefix may have more rows than the whole path
  pub prefix : prefix_rows with_orders (contents few_lines (day 1)) sold 1 ≡
      record { steps = map key (codes "1" ∷ codes "O1" ∷ []) ∷ [] }
      ∷ record { steps = map key (codes "1" ∷ codes "O2" ∷ []) ∷ [] }
      ∷ record { steps = map key (codes "2" ∷ codes "O3" ∷ []) ∷ [] }
      ∷ []
  pub whole : path_mart with_orders few_lines 0 (day 1) ≡
      record { steps = map key (codes "1" ∷ codes "O2" ∷ []) ∷ map key (codes "O2" ∷ codes "P1" ∷ []) ∷ [] } ∷ []
  pub larger : is_larger 2 with_orders (contents few_lines (day 1)) sold ≡ true
  pub not_larger : is_larger 3 with_orders (contents few_lines (day 1)) sold ≡ false
  pub larger_at_last : is_larger 1 with_orders (contents orders (day 1)) sold ≡ true
  pub no_path : path_mart with_orders orders 1 (day 1) ≡ []
  -- over a hub whose keys have two parts: notices neighbours that agree by one part
  pub two_parts : path_mart with_stocks stocked 0 (day 1) ≡
      record { steps = (key (codes "1") ∷ place (codes "NORTH") (codes "A") ∷ []) ∷ (place (codes "NORTH") (codes "A") ∷ key (codes "P1") ∷ []) ∷ [] } ∷ []
  -- the same feed twice: notices rows that are joined with themselves alone, and such as are not joined with themselves
  pub one_feed_twice : path_mart with_imports shared_order 0 (day 1) ≡
      record { steps = map key (codes "1" ∷ codes "O1" ∷ []) ∷ map key (codes "1" ∷ codes "O1" ∷ []) ∷ [] }
      ∷ record { steps = map key (codes "1" ∷ codes "O1" ∷ []) ∷ map key (codes "2" ∷ codes "O1" ∷ []) ∷ [] }
      ∷ record { steps = map key (codes "2" ∷ codes "O1" ∷ []) ∷ map key (codes "1" ∷ codes "O1" ∷ []) ∷ [] }
      ∷ record { steps = map key (codes "2" ∷ codes "O1" ∷ []) ∷ map key (codes "2" ∷ codes "O1" ∷ []) ∷ [] }
      ∷ record { steps = map key (codes "2" ∷ codes "O2" ∷ []) ∷ map key (codes "2" ∷ codes "O2" ∷ []) ∷ [] }
      ∷ []
  -- a link of three hubs, and the shared hub last in both: notices neighbours that agree by a place and not by the hub
  pub three_hubs : path_mart with_owners owned 0 (day 1) ≡
      record { steps = map key (codes "1" ∷ codes "P" ∷ codes "X" ∷ []) ∷ map key (codes "C" ∷ codes "X" ∷ []) ∷ [] }
      ∷ record { steps = map key (codes "1" ∷ codes "Q" ∷ codes "X" ∷ []) ∷ map key (codes "C" ∷ codes "X" ∷ []) ∷ [] }
      ∷ []

-- marts before the first window, and between two windows: each notices a mart that takes the nearest window, or the last
pub record BetweenHold : Type 0 where
  pub hub_before : hub_mart with_names three_days_apart 0 leap_day ≡ []
  pub hub_between : hub_mart with_names three_days_apart 0 (day 3) ≡ record { key = key (codes "1"); cells = record { present = true; attrs = codes "abc" ∷ [] } ∷ [] } ∷ []
  pub hub_afterwards : hub_mart with_names three_days_apart 0 (day 4) ≡
      record { key = key (codes "1"); cells = record { present = true; attrs = codes "abd" ∷ [] } ∷ [] }
      ∷ record { key = key (codes "2"); cells = record { present = true; attrs = codes "x" ∷ [] } ∷ [] }
      ∷ []
  pub feed_between : feed_mart three_days_apart 0 (day 3) ≡ named_row (codes "1") (codes "abc") ∷ []
  pub path_before : path_mart with_orders orders_emptied 0 leap_day ≡ []
  pub path_between : path_mart with_orders orders_emptied 0 (day 3) ≡
      record { steps = map key (codes "1" ∷ codes "O1" ∷ []) ∷ map key (codes "O1" ∷ codes "P1" ∷ []) ∷ [] }
      ∷ record { steps = map key (codes "1" ∷ codes "O1" ∷ []) ∷ map key (codes "O1" ∷ codes "P2" ∷ []) ∷ [] }
      ∷ []
  pub path_afterwards : path_mart with_orders orders_emptied 0 (day 4) ≡ []
  pub periods_before : period_mart assigned_later 0 leap_day ≡ []
  pub periods_between : period_mart assigned_later 0 (day 3) ≡ record { refs = map key (codes "1" ∷ codes "P" ∷ []); begin = day 1; end = open_end } ∷ []
  pub periods_afterwards : period_mart assigned_later 0 (day 4) ≡
      record { refs = map key (codes "1" ∷ codes "P" ∷ []); begin = day 1; end = day 4 }
      ∷ record { refs = map key (codes "1" ∷ codes "Q" ∷ []); begin = day 4; end = open_end }
      ∷ []

pub record PeriodMartsHold : Type 0 where
  -- by references, then by begin
  pub three_periods : period_mart assignments 0 (day 3) ≡
      record { refs = map key (codes "1" ∷ codes "P" ∷ []); begin = day 1; end = day 2 }
      ∷ record { refs = map key (codes "1" ∷ codes "P" ∷ []); begin = day 3; end = open_end }
      ∷ record { refs = map key (codes "1" ∷ codes "Q" ∷ []); begin = day 2; end = day 3 }
      ∷ []
  -- a run that begins later isn't there yet, and one that ends later is open
  pub earlier : period_mart assignments 0 (day 2) ≡
      record { refs = map key (codes "1" ∷ codes "P" ∷ []); begin = day 1; end = day 2 }
      ∷ record { refs = map key (codes "1" ∷ codes "Q" ∷ []); begin = day 2; end = open_end }
      ∷ []
  pub earliest : period_mart assignments 0 (day 1) ≡ record { refs = map key (codes "1" ∷ codes "P" ∷ []); begin = day 1; end = open_end } ∷ []
  -- a window without the feed breaks no run
  pub unbroken : period_mart stayed 0 (day 3) ≡ record { refs = map key (codes "1" ∷ codes "P" ∷ []); begin = day 1; end = open_end } ∷ []
  pub ended : period_mart stayed 0 (day 4) ≡ record { refs = map key (codes "1" ∷ codes "P" ∷ []); begin = day 1; end = day 4 } ∷ []
  -- and is one run
  pub one_run : runs (history 0 (reverse stayed)) (map key (codes "1" ∷ codes "P" ∷ [])) ≡ record { begin = day 1; end = day 4 } ∷ []
  pub two_runs : runs (history 0 (reverse assignments)) (map key (codes "1" ∷ codes "P" ∷ [])) ≡
      record { begin = day 3; end = open_end } ∷ record { begin = day 1; end = day 2 } ∷ []
