-- Heads, open windows and rows of raw tables that break rules of form.
use Rattle.std.specs.Prelude.{◌≡◌, ℕ, ◌+◌, List, [], ◌∷◌, ◌++◌, Option, Some, None, codes, if◌then◌else◌, map, replicate, take}
use Rattle.dv_text.specs.declared.rows.Staged.{Staged}
use Rattle.dv_text.specs.declared.rows.Window.{Window}
use Rattle.dv_text.specs.declared.rows.WindowHead.{WindowHead}
use Rattle.dv_text.specs.Keys.{Hashes, hashes_by}
use Rattle.dv_text.specs.Stamps.{open_end}
use Rattle.dv_catalog.specs.declared.tables.TableId.{TableId}
use Rattle.dv_catalog.specs.declared.tables.TableId.TheVariants.{Hub, Link, Sat, Multi, Status, Effect}
use Rattle.dv_catalog.specs.Entries.{Mapping}
use Rattle.dv_records.specs.declared.answers.Damage.{Damage}
use Rattle.dv_records.specs.declared.raw_rows.Code.{Code}
use Rattle.dv_records.specs.declared.raw_rows.Code.TheVariants.{I, D}
use Rattle.dv_records.specs.declared.raw_rows.EffectRow.{EffectRow}
use Rattle.dv_records.specs.declared.raw_rows.HubRow.{HubRow}
use Rattle.dv_records.specs.declared.raw_rows.LinkRow.{LinkRow}
use Rattle.dv_records.specs.declared.raw_rows.MultiRow.{MultiRow}
use Rattle.dv_records.specs.declared.raw_rows.SatRow.{SatRow}
use Rattle.dv_records.specs.declared.raw_rows.StatusRow.{StatusRow}
use Rattle.dv_records.specs.declared.stores.Rows.{Rows}
use Rattle.dv_records.specs.declared.stores.Rows.TheVariants.{Hubs, Links, Sats, Multis, Statuses, Effects, Pits}
use Rattle.dv_records.specs.declared.stores.Store.{Store}
use Rattle.dv_records.specs.declared.stores.TableRows.{TableRows}
use Rattle.dv_records.specs.MemoryKeepers.{empty_store}
use Rattle.dv_records.specs.States.{head_of}
use Rattle.dv_records.specs.Stores.{table_eq}
use Rattle.dv_records.specs.Vault.{partial, vault}
use Rattle.dv_store_rules.specs.Damages.{head_damage, raw_damage, stage_damage}
use Rattle.dv_store_rules.specs.StoredRows.{flaw_in}
use Rattle.dv_shown.specs.Mappings.{with_accounts, with_all_kinds, with_drivers, with_lines, with_names, with_orders, with_phones, with_places, with_sites, with_staff, with_stocks}
use Rattle.dv_shown.specs.Windows.{all_kinds, assignments, emptied, moved_phones, one_absent, one_site, orders_again, phones, placed_sites, staffed, stocked}
use Rattle.dv_shown.specs.Words.{bare_row, day, key, named_row, pair_row, place, row, staged, window}

-- ---- digests of one width

-- the text's first eight bytes, with dots behind a shorter one
abbrev pub dotted : List ℕ → List ℕ
dotted text = take 8 (text ++ replicate 8 46)

abbrev pub wide : Hashes
wide = hashes_by dotted 8

-- ---- stores, and what is damaged in them

-- a store of sealed windows
abbrev pub kept : Mapping → List Window → Store
kept mapping windows = record empty_store { windows = map head_of windows; tables = vault mapping wide windows }

-- the same with a window open, which the first k tables have
abbrev pub kept_open : Mapping → List Window → Window → ℕ → Store
kept_open mapping windows window k = record (kept mapping windows) { stage = Some window; tables = partial mapping wide windows window k }

-- a store with other rows in a table
abbrev pub or_other : TableId → Rows → TableRows → TableRows
or_other table rows entry = if table_eq entry.table table then record entry { rows = rows } else entry

abbrev pub with_other : TableId → Rows → Store → Store
with_other table rows store = record store { tables = map (or_other table rows) store.tables }

-- a row of a table that breaks a rule
abbrev pub at : List ℕ → ℕ → ℕ → Option Damage
at table row rule = Some (record { table = table; row = row; rule = rule })

-- the damage of the raw tables
abbrev pub in_rows : Mapping → Store → Option Damage
in_rows mapping store = raw_damage mapping wide 8 store

-- ---- sealed windows and the open one

-- a head of the n-th day
abbrev pub head : ℕ → List ℕ → WindowHead
head n feeds = record { load = day n; feeds = feeds }

abbrev pub heads_of : List WindowHead → Option Damage
heads_of heads = head_damage with_accounts (record empty_store { windows = heads })

-- an open window behind one that was sealed on the second day
abbrev pub stage_of : Mapping → ℕ → List Staged → Option Damage
stage_of mapping n extracts = stage_damage mapping (record empty_store { windows = head 2 (0 ∷ []) ∷ []; stage = Some (window n extracts) })

pub record HeadsDamaged : Type 0 where
  pub none : heads_of [] ≡ None
  pub ascending : heads_of (head 1 (0 ∷ []) ∷ head 2 (0 ∷ 1 ∷ []) ∷ head 4 (1 ∷ []) ∷ []) ≡ None
  pub same_date : heads_of (head 1 (0 ∷ []) ∷ head 1 (1 ∷ []) ∷ []) ≡ at (codes "windows") 2 2
  -- notices a date that is compared with the first one
  pub earlier_date : heads_of (head 1 (0 ∷ []) ∷ head 3 (0 ∷ []) ∷ head 2 (0 ∷ []) ∷ []) ≡ at (codes "windows") 3 2
  pub no_feeds : heads_of (head 1 (0 ∷ []) ∷ head 2 [] ∷ head 3 [] ∷ []) ≡ at (codes "windows") 2 2
  pub feeds_fall : heads_of (head 1 (1 ∷ 0 ∷ []) ∷ []) ≡ at (codes "windows") 1 2
  pub feed_twice : heads_of (head 1 (1 ∷ 1 ∷ []) ∷ []) ≡ at (codes "windows") 1 2
  pub other_feed : heads_of (head 1 (0 ∷ 2 ∷ []) ∷ []) ≡ at (codes "windows") 1 2
  pub none_open : stage_damage with_accounts (record empty_store { windows = head 2 (0 ∷ []) ∷ [] }) ≡ None
  pub first_open : stage_damage with_accounts (record empty_store { stage = Some (window 1 (staged 0 [] ∷ [])) }) ≡ None
  pub open_later : stage_of with_accounts 3 (staged 0 (named_row (codes "1") (codes "x") ∷ []) ∷ staged 1 [] ∷ []) ≡ None
  pub open_same : stage_of with_accounts 2 (staged 0 [] ∷ []) ≡ at (codes "stage") 1 3
  pub open_earlier : stage_of with_accounts 1 (staged 0 [] ∷ []) ≡ at (codes "stage") 1 3
  pub open_without : stage_of with_accounts 3 [] ≡ at (codes "stage") 1 3
  pub open_feeds_fall : stage_of with_accounts 3 (staged 1 [] ∷ staged 0 [] ∷ []) ≡ at (codes "stage") 1 3
  pub open_other_feed : stage_of with_accounts 3 (staged 2 [] ∷ []) ≡ at (codes "stage") 1 3
  pub open_falls : stage_of with_accounts 3 (staged 0 (named_row (codes "2") (codes "x") ∷ named_row (codes "1") (codes "x") ∷ []) ∷ []) ≡ at (codes "stage") 1 3
  pub open_twice : stage_of with_accounts 3 (staged 0 (named_row (codes "1") (codes "x") ∷ named_row (codes "1") (codes "x") ∷ []) ∷ []) ≡ at (codes "stage") 1 3
  pub open_not_normal : stage_of with_accounts 3 (staged 0 (named_row (codes "a") (codes "x") ∷ []) ∷ []) ≡ at (codes "stage") 1 3
  pub open_no_attribute : stage_of with_accounts 3 (staged 0 (bare_row (codes "1") ∷ []) ∷ []) ≡ at (codes "stage") 1 3
  pub open_full : stage_of with_accounts 3 (staged 0 (named_row (codes "1") (replicate 4096 120) ∷ []) ∷ []) ≡ None
  pub open_long : stage_of with_accounts 3 (staged 0 (named_row (codes "1") (replicate 4097 120) ∷ []) ∷ []) ≡ at (codes "stage") 1 3
  pub open_missing : stage_of with_accounts 3 (staged 0 (named_row [] (codes "x") ∷ []) ∷ []) ≡ at (codes "stage") 1 3
  pub open_rivals : stage_of with_accounts 3 (staged 0 (named_row (codes "1") (codes "x") ∷ named_row (codes "1") (codes "y") ∷ []) ∷ []) ≡ at (codes "stage") 1 3
  pub open_two_parts : stage_of with_accounts 3 (staged 0 (record (named_row (codes "1") (codes "x")) { refs = place (codes "1") (codes "A") ∷ [] } ∷ []) ∷ []) ≡ at (codes "stage") 1 3
  pub open_two_references : stage_of with_accounts 3 (staged 0 (record (pair_row (codes "1") (codes "2")) { attrs = codes "x" ∷ [] } ∷ []) ∷ []) ≡ at (codes "stage") 1 3
  pub open_no_sub : stage_of with_phones 3 (staged 0 (named_row (codes "1") (codes "12") ∷ []) ∷ []) ≡ at (codes "stage") 1 3
  pub open_attribute_blank : stage_of with_accounts 3 (staged 0 (named_row (codes "1") (codes " x") ∷ []) ∷ []) ≡ at (codes "stage") 1 3
  -- of two references one may be missing, but not the driving one, nor both
  pub open_one_missing : stage_of with_orders 3 (staged 0 (pair_row [] (codes "O2") ∷ []) ∷ []) ≡ None
  pub open_all_missing : stage_of with_orders 3 (staged 0 (pair_row [] [] ∷ []) ∷ []) ≡ at (codes "stage") 1 3
  pub open_driver_missing : stage_of with_drivers 3 (staged 0 (pair_row [] (codes "P") ∷ []) ∷ []) ≡ at (codes "stage") 1 3
  pub open_partners : stage_of with_drivers 3 (staged 0 (pair_row (codes "1") (codes "P") ∷ pair_row (codes "1") (codes "Q") ∷ []) ∷ []) ≡ at (codes "stage") 1 3

-- ---- rows of each kind under these digests, of one source

-- of the feed customers
abbrev pub customer : List ℕ → ℕ → HubRow
customer part n = record { digest = dotted part; load = day n; source = codes "crm.customers"; key = key part }

abbrev pub named : List ℕ → ℕ → List ℕ → SatRow
named part n attr = record { parent = dotted part; load = day n; source = codes "crm.customers"; diff = dotted attr; attrs = attr ∷ [] }

abbrev pub coded : List ℕ → ℕ → Code → StatusRow
coded part n code = record { parent = dotted part; load = day n; source = codes "crm.customers"; code = code }

-- of the feed phones
abbrev pub phoned : List ℕ → ℕ → List ℕ → List ℕ → MultiRow
phoned part n kind number =
    record { parent = dotted part; load = day n; source = codes "crm.phones"; diff = dotted number; sub = kind ∷ []; attrs = number ∷ [] }

-- of the feed assignments
abbrev pub working : List ℕ → List ℕ → ℕ → LinkRow
working employee department n = record {
  digest = dotted (employee ++ 59 ∷ department);
  load = day n;
  source = codes "hr.assignments";
  hubs = dotted employee ∷ dotted department ∷ [];
}

abbrev pub in_effect : List ℕ → ℕ → ℕ → ℕ → EffectRow
in_effect text n begin end = record { parent = dotted text; load = day n; source = codes "hr.assignments"; begin = begin; end = end }

-- ---- stores of two keys and of assignments, with other rows in one table

-- two customers with names, who are gone on the second day
abbrev pub customers_store : Store
customers_store = kept with_names emptied

abbrev pub with_hubs : List HubRow → Option Damage
with_hubs rows = in_rows with_names (with_other (Hub 0) (Hubs rows) customers_store)

abbrev pub with_sats : List SatRow → Option Damage
with_sats rows = in_rows with_names (with_other (Sat 0) (Sats rows) customers_store)

abbrev pub with_statuses : List StatusRow → Option Damage
with_statuses rows = in_rows with_names (with_other (Status 0) (Statuses rows) customers_store)

-- a customer's phones
abbrev pub with_multis : List MultiRow → Option Damage
with_multis rows = in_rows with_phones (with_other (Multi 0) (Multis rows) (kept with_phones phones))

-- an employee in a department, then in another, and back
abbrev pub with_links : List LinkRow → Option Damage
with_links rows = in_rows with_drivers (with_other (Link 0) (Links rows) (kept with_drivers assignments))

abbrev pub with_effects : List EffectRow → Option Damage
with_effects rows = in_rows with_drivers (with_other (Effect 0) (Effects rows) (kept with_drivers assignments))

-- the batch of the first day, of two rows
abbrev pub two_customers : List HubRow
two_customers = customer (codes "1") 1 ∷ customer (codes "2") 1 ∷ []

abbrev pub two_names : List SatRow
two_names = named (codes "1") 1 (codes "x") ∷ named (codes "2") 1 (codes "y") ∷ []

abbrev pub two_codes : List StatusRow
two_codes = coded (codes "1") 1 I ∷ coded (codes "2") 1 I ∷ []

abbrev pub two_phones : List MultiRow
two_phones = phoned (codes "1") 1 (codes "fax") (codes "12") ∷ phoned (codes "1") 1 (codes "home") (codes "10") ∷ []

abbrev pub two_works : List LinkRow
two_works = working (codes "1") (codes "P") 1 ∷ working (codes "1") (codes "Q") 2 ∷ []

abbrev pub one_effect : List EffectRow
one_effect = in_effect (codes "1;P") 1 (day 1) open_end ∷ []

-- stores of sealed windows, and such with a window open, have no damage in their rows
pub record RowsSound : Type 0 where
  pub empty : in_rows with_names empty_store ≡ None
  pub of_all_kinds : in_rows with_all_kinds (kept with_all_kinds all_kinds) ≡ None
  pub several_rows : in_rows with_phones (kept with_phones phones) ≡ None
  pub two_subs : in_rows with_lines (kept with_lines moved_phones) ≡ None
  -- a missing reference, and a link's second window
  pub linked : in_rows with_orders (kept with_orders orders_again) ≡ None
  -- keys of two parts
  pub two_parts : in_rows with_stocks (kept with_stocks stocked) ≡ None
  pub driven : in_rows with_drivers (kept with_drivers assignments) ≡ None
  -- windows of which one has not all feeds
  pub feed_absent : in_rows with_accounts (kept with_accounts one_absent) ≡ None
  pub all_gone : in_rows with_names customers_store ≡ None
  -- a row of a hub may be of any window, also of one that brings the hub nothing
  pub of_any_window : in_rows with_orders (with_other (Hub 0) (Hubs (record (customer (codes "1") 1) { source = codes "shop.lines" } ∷ record (customer (codes "2") 2) { source = codes "shop.lines" } ∷ [])) (kept with_orders orders_again)) ≡ None
  -- a record source may be that of any feed
  pub of_any_feed :
      in_rows with_accounts (with_other (Sat 0) (Sats (record (named (codes "1") 1 (codes "abc")) { source = codes "shop.accounts" } ∷ [])) (kept with_accounts one_absent))
      ≡ None
  -- no rows, of another kind than the table's
  pub none_of_other_kind : in_rows with_names (with_other (Status 0) (Hubs []) customers_store) ≡ None
  -- rows of the tables that were changed, as they are
  pub unchanged_hubs : with_hubs two_customers ≡ None
  pub unchanged_sats : with_sats two_names ≡ None
  pub unchanged_statuses : with_statuses (two_codes ++ coded (codes "1") 2 D ∷ coded (codes "2") 2 D ∷ []) ≡ None
  pub unchanged_multis : with_multis (two_phones ++ phoned (codes "1") 2 (codes "fax") (codes "12") ∷ []) ≡ None
  pub unchanged_links : with_links two_works ≡ None
  pub unchanged_effects : with_effects (one_effect ++ in_effect (codes "1;P") 2 (day 1) (day 2) ∷ in_effect (codes "1;Q") 2 (day 2) open_end ∷ []) ≡ None

-- rows of hubs
pub record HubsDamaged : Type 0 where
  pub other_kind : in_rows with_names (with_other (Hub 0) (Sats two_names) customers_store) ≡ at (codes "hub_customer") 1 4
  pub no_parts : with_hubs (customer (codes "1") 1 ∷ record (customer (codes "2") 1) { key = record { parts = [] } } ∷ []) ≡ at (codes "hub_customer") 2 4
  pub two_parts : with_hubs (record (customer (codes "1") 1) { key = place (codes "1") (codes "A") } ∷ []) ≡ at (codes "hub_customer") 1 4
  pub long_part : with_hubs (customer (replicate 4097 65) 1 ∷ []) ≡ at (codes "hub_customer") 1 4
  -- one of two parts
  pub one_long_part :
      in_rows with_sites (with_other (Hub 0) (Hubs (record { digest = dotted (codes "NORTH;A"); load = day 1; source = codes "geo.sites"; key = place (codes "NORTH") (replicate 4097 65) } ∷ [])) (kept with_sites one_site))
      ≡ at (codes "hub_site") 1 4
  pub full_part : with_hubs (customer (codes "1") 1 ∷ customer (codes "2") 1 ∷ customer (replicate 4096 65) 1 ∷ []) ≡ None
  pub narrow : with_hubs (record (customer (codes "1") 1) { digest = codes "1......" } ∷ []) ≡ at (codes "hub_customer") 1 4
  pub broad : with_hubs (record (customer (codes "1") 1) { digest = codes "1........" } ∷ []) ≡ at (codes "hub_customer") 1 4
  pub not_loaded : with_hubs (two_customers ++ customer (codes "3") 4 ∷ []) ≡ at (codes "hub_customer") 3 5
  pub falls : with_hubs (customer (codes "2") 1 ∷ customer (codes "1") 1 ∷ []) ≡ at (codes "hub_customer") 2 6
  pub date_falls : with_hubs (customer (codes "1") 2 ∷ customer (codes "2") 1 ∷ []) ≡ at (codes "hub_customer") 2 6
  -- notices an order that is compared with the first row alone
  pub falls_later : with_hubs (customer (codes "1") 1 ∷ customer (codes "3") 1 ∷ customer (codes "2") 1 ∷ []) ≡ at (codes "hub_customer") 3 6
  -- rows of a later date stand in an order of their own
  pub later_less : with_hubs (customer (codes "1") 1 ∷ customer (codes "3") 1 ∷ customer (codes "2") 2 ∷ []) ≡ None
  pub other_hash : with_hubs (record (customer (codes "1") 1) { digest = codes "0......." } ∷ []) ≡ at (codes "hub_customer") 1 7
  pub other_source : with_hubs (record (customer (codes "1") 1) { source = codes "crm" } ∷ []) ≡ at (codes "hub_customer") 1 8
  pub once_again : with_hubs (two_customers ++ customer (codes "1") 2 ∷ []) ≡ at (codes "hub_customer") 3 10

-- rows of links
pub record LinksDamaged : Type 0 where
  pub other_kind : in_rows with_drivers (with_other (Link 0) (Pits (record { key = []; cells = [] } ∷ [])) (kept with_drivers assignments)) ≡ at (codes "link_works") 1 4
  pub one_reference : with_links (record (working (codes "1") (codes "P") 1) { hubs = dotted (codes "1") ∷ [] } ∷ []) ≡ at (codes "link_works") 1 4
  pub narrow : with_links (record (working (codes "1") (codes "P") 1) { digest = codes "1;P...." } ∷ []) ≡ at (codes "link_works") 1 4
  pub three_references : with_links (record (working (codes "1") (codes "P") 1) { hubs = dotted (codes "1") ∷ dotted (codes "P") ∷ dotted (codes "P") ∷ [] } ∷ []) ≡ at (codes "link_works") 1 4
  pub narrow_reference : with_links (record (working (codes "1") (codes "P") 1) { hubs = dotted (codes "1") ∷ codes "P" ∷ [] } ∷ []) ≡ at (codes "link_works") 1 4
  pub not_loaded : with_links (working (codes "1") (codes "P") 0 ∷ []) ≡ at (codes "link_works") 1 5
  pub falls : with_links (working (codes "1") (codes "Q") 1 ∷ working (codes "1") (codes "P") 1 ∷ []) ≡ at (codes "link_works") 2 6
  pub date_falls : with_links (working (codes "1") (codes "P") 2 ∷ working (codes "1") (codes "Q") 1 ∷ []) ≡ at (codes "link_works") 2 6
  pub zero : with_links (record (working (codes "1") (codes "P") 1) { digest = replicate 8 0 } ∷ []) ≡ at (codes "link_works") 1 7
  pub other_source : with_links (record (working (codes "1") (codes "P") 1) { source = codes "assignments" } ∷ []) ≡ at (codes "link_works") 1 8
  -- a missing reference
  pub no_department : with_links (record (working (codes "1") (codes "P") 1) { hubs = dotted (codes "1") ∷ replicate 8 0 ∷ [] } ∷ working (codes "1") (codes "Q") 2 ∷ []) ≡ None
  pub other_employee : with_links (working (codes "2") (codes "P") 1 ∷ []) ≡ at (codes "link_works") 1 9
  -- notices a reference that is looked up in the other hub
  pub turned : with_links (working (codes "P") (codes "1") 1 ∷ []) ≡ at (codes "link_works") 1 9
  pub other_department : with_links (working (codes "1") (codes "P") 1 ∷ working (codes "1") (codes "R") 1 ∷ []) ≡ at (codes "link_works") 2 9
  pub once_again : with_links (working (codes "1") (codes "P") 1 ∷ working (codes "1") (codes "P") 2 ∷ []) ≡ at (codes "link_works") 2 10

-- rows of satellites
pub record SatellitesDamaged : Type 0 where
  pub other_kind : in_rows with_names (with_other (Sat 0) (Statuses two_codes) customers_store) ≡ at (codes "sat_customers") 1 4
  pub no_attribute : with_sats (record (named (codes "1") 1 (codes "x")) { attrs = [] } ∷ []) ≡ at (codes "sat_customers") 1 4
  pub long_attribute : with_sats (named (codes "1") 1 (replicate 4097 120) ∷ []) ≡ at (codes "sat_customers") 1 4
  pub narrow : with_sats (record (named (codes "1") 1 (codes "x")) { parent = codes "1" } ∷ []) ≡ at (codes "sat_customers") 1 4
  pub narrow_difference : with_sats (record (named (codes "1") 1 (codes "x")) { diff = codes "x" } ∷ []) ≡ at (codes "sat_customers") 1 4
  pub not_loaded : with_sats (named (codes "1") 3 (codes "x") ∷ []) ≡ at (codes "sat_customers") 1 5
  -- a window of the date is sealed, but it hasn't the feed
  pub not_delivered :
      in_rows with_accounts (with_other (Sat 0) (Sats (named (codes "1") 1 (codes "x") ∷ named (codes "1") 2 (codes "y") ∷ [])) (kept with_accounts one_absent))
      ≡ at (codes "sat_customers") 2 5
  pub falls : with_sats (named (codes "2") 1 (codes "y") ∷ named (codes "1") 1 (codes "x") ∷ []) ≡ at (codes "sat_customers") 2 6
  pub parent_twice : with_sats (named (codes "1") 1 (codes "x") ∷ named (codes "1") 1 (codes "y") ∷ []) ≡ at (codes "sat_customers") 2 6
  pub date_falls : with_sats (named (codes "1") 2 (codes "x") ∷ named (codes "2") 1 (codes "y") ∷ []) ≡ at (codes "sat_customers") 2 6
  pub other_difference : with_sats (record (named (codes "1") 1 (codes "x")) { diff = dotted (codes "y") } ∷ []) ≡ at (codes "sat_customers") 1 7
  pub other_source : with_sats (record (named (codes "1") 1 (codes "x")) { source = codes "crm.phones" } ∷ []) ≡ at (codes "sat_customers") 1 8
  pub other_parent : with_sats (named (codes "3") 1 (codes "x") ∷ []) ≡ at (codes "sat_customers") 1 9
  pub no_parent : with_sats (record (named (codes "1") 1 (codes "x")) { parent = replicate 8 0 } ∷ []) ≡ at (codes "sat_customers") 1 9
  -- a parent that stands in another hub
  pub parent_of_other_hub :
      in_rows with_places (with_other (Sat 1) (Sats (record (named (codes "1") 1 (codes "12")) { source = codes "geo.sites" } ∷ [])) (kept with_places placed_sites))
      ≡ at (codes "sat_sites") 1 9
  -- equal attributes again are no damage
  pub unchanged : with_sats (named (codes "1") 1 (codes "x") ∷ named (codes "1") 2 (codes "x") ∷ []) ≡ None

-- rows of multi-active satellites
pub record MultisDamaged : Type 0 where
  pub other_kind : in_rows with_phones (with_other (Multi 0) (Sats two_names) (kept with_phones phones)) ≡ at (codes "msat_phones") 1 4
  pub no_sub : with_multis (record (phoned (codes "1") 1 (codes "fax") (codes "12")) { sub = [] } ∷ []) ≡ at (codes "msat_phones") 1 4
  pub long_sub : with_multis (phoned (codes "1") 1 (replicate 4097 102) (codes "12") ∷ []) ≡ at (codes "msat_phones") 1 4
  pub two_attributes : with_multis (record (phoned (codes "1") 1 (codes "fax") (codes "12")) { attrs = codes "1" ∷ codes "2" ∷ [] } ∷ []) ≡ at (codes "msat_phones") 1 4
  pub long_attribute : with_multis (phoned (codes "1") 1 (codes "fax") (replicate 4097 49) ∷ []) ≡ at (codes "msat_phones") 1 4
  pub narrow : with_multis (record (phoned (codes "1") 1 (codes "fax") (codes "12")) { parent = codes "1" } ∷ []) ≡ at (codes "msat_phones") 1 4
  pub narrow_difference : with_multis (record (phoned (codes "1") 1 (codes "fax") (codes "12")) { diff = codes "12" } ∷ []) ≡ at (codes "msat_phones") 1 4
  pub not_loaded : with_multis (phoned (codes "1") 3 (codes "fax") (codes "12") ∷ []) ≡ at (codes "msat_phones") 1 5
  pub not_delivered :
      in_rows with_all_kinds (with_other (Multi 1) (Multis (phoned (codes "1") 2 (codes "fax") (codes "12") ∷ [])) (record (kept with_all_kinds all_kinds) { windows = head 1 (0 ∷ 1 ∷ 2 ∷ []) ∷ head 2 (0 ∷ 2 ∷ []) ∷ [] }))
      ≡ at (codes "msat_phones") 1 5
  pub date_falls : with_multis (phoned (codes "1") 2 (codes "fax") (codes "12") ∷ phoned (codes "1") 1 (codes "home") (codes "10") ∷ []) ≡ at (codes "msat_phones") 2 6
  pub parent_falls :
      in_rows with_all_kinds (with_other (Multi 1) (Multis (phoned (codes "3") 1 (codes "fax") (codes "12") ∷ phoned (codes "1") 1 (codes "home") (codes "10") ∷ [])) (kept with_all_kinds all_kinds))
      ≡ at (codes "msat_phones") 2 6
  pub sub_falls : with_multis (phoned (codes "1") 1 (codes "home") (codes "10") ∷ phoned (codes "1") 1 (codes "fax") (codes "12") ∷ []) ≡ at (codes "msat_phones") 2 6
  pub sub_twice : with_multis (phoned (codes "1") 1 (codes "fax") (codes "10") ∷ phoned (codes "1") 1 (codes "fax") (codes "12") ∷ []) ≡ at (codes "msat_phones") 2 6
  pub other_difference : with_multis (record (phoned (codes "1") 1 (codes "fax") (codes "12")) { diff = dotted (codes "fax") } ∷ []) ≡ at (codes "msat_phones") 1 7
  pub other_source : with_multis (record (phoned (codes "1") 1 (codes "fax") (codes "12")) { source = codes "phones" } ∷ []) ≡ at (codes "msat_phones") 1 8
  pub other_parent : with_multis (phoned (codes "2") 1 (codes "fax") (codes "12") ∷ []) ≡ at (codes "msat_phones") 1 9

-- rows of status tables
pub record StatusesDamaged : Type 0 where
  pub other_kind : in_rows with_names (with_other (Status 0) (Hubs two_customers) customers_store) ≡ at (codes "status_customers") 1 4
  pub narrow : with_statuses (record (coded (codes "1") 1 I) { parent = codes "1" } ∷ []) ≡ at (codes "status_customers") 1 4
  pub not_loaded : with_statuses (coded (codes "1") 3 I ∷ []) ≡ at (codes "status_customers") 1 5
  pub not_delivered :
      in_rows with_accounts (with_other (Status 0) (Statuses (coded (codes "1") 1 I ∷ coded (codes "1") 2 D ∷ [])) (kept with_accounts one_absent))
      ≡ at (codes "status_customers") 2 5
  pub falls : with_statuses (coded (codes "2") 1 I ∷ coded (codes "1") 1 I ∷ []) ≡ at (codes "status_customers") 2 6
  pub date_falls : with_statuses (coded (codes "1") 2 I ∷ coded (codes "2") 1 I ∷ []) ≡ at (codes "status_customers") 2 6
  pub parent_twice : with_statuses (coded (codes "1") 1 I ∷ coded (codes "1") 1 D ∷ []) ≡ at (codes "status_customers") 2 6
  pub other_source : with_statuses (record (coded (codes "1") 1 I) { source = codes "crm.customer" } ∷ []) ≡ at (codes "status_customers") 1 8
  pub other_parent : with_statuses (coded (codes "3") 1 I ∷ []) ≡ at (codes "status_customers") 1 9
  -- a parent that stands in a link's table, and not in the hub's
  pub linked_parent :
      in_rows with_drivers (with_other (Status 0) (Statuses (record (coded (codes "1") 1 I) { source = codes "hr.assignments" } ∷ [])) (kept with_drivers assignments))
      ≡ at (codes "status_assignments") 1 9
  -- a feed that the mapping hasn't has no parents
  pub of_no_feed :
      flaw_in (record { mapping = with_names; hashes = wide; width = 8; heads = head 1 (7 ∷ []) ∷ []; tables = [] }) (Status 7) (Statuses (coded (codes "1") 1 I ∷ []))
      ≡ Some (record { row = 1; rule = 9 })
  pub gone_first : with_statuses (coded (codes "1") 1 D ∷ []) ≡ at (codes "status_customers") 1 11
  -- notices the code of another parent's row
  pub second_gone_first : with_statuses (coded (codes "1") 1 I ∷ coded (codes "2") 1 D ∷ []) ≡ at (codes "status_customers") 2 11
  pub comes_twice : with_statuses (coded (codes "1") 1 I ∷ coded (codes "1") 2 I ∷ []) ≡ at (codes "status_customers") 2 11
  -- notices the code of a parent's first row
  pub goes_twice :
      in_rows with_accounts (record (with_other (Status 0) (Statuses (coded (codes "1") 1 I ∷ coded (codes "1") 2 D ∷ coded (codes "1") 3 D ∷ [])) (kept with_accounts one_absent)) { windows = head 1 (0 ∷ 1 ∷ []) ∷ head 2 (0 ∷ 1 ∷ []) ∷ head 3 (0 ∷ []) ∷ [] })
      ≡ at (codes "status_customers") 3 11
  pub comes_again :
      in_rows with_accounts (record (with_other (Status 0) (Statuses (coded (codes "1") 1 I ∷ coded (codes "1") 2 D ∷ coded (codes "1") 3 I ∷ [])) (kept with_accounts one_absent)) { windows = head 1 (0 ∷ 1 ∷ []) ∷ head 2 (0 ∷ 1 ∷ []) ∷ head 3 (0 ∷ []) ∷ [] })
      ≡ None

-- rows of effectivity tables
pub record EffectsDamaged : Type 0 where
  pub other_kind : in_rows with_drivers (with_other (Effect 0) (Statuses two_codes) (kept with_drivers assignments)) ≡ at (codes "eff_assignments") 1 4
  pub narrow : with_effects (record (in_effect (codes "1;P") 1 (day 1) open_end) { parent = codes "1;P" } ∷ []) ≡ at (codes "eff_assignments") 1 4
  pub not_loaded : with_effects (in_effect (codes "1;P") 4 (day 4) open_end ∷ []) ≡ at (codes "eff_assignments") 1 5
  pub not_delivered :
      in_rows with_staff (with_other (Effect 1) (Effects (in_effect (codes "1;P") 2 (day 2) open_end ∷ [])) (record (kept with_staff staffed) { windows = head 1 (0 ∷ 1 ∷ []) ∷ head 2 (0 ∷ []) ∷ [] }))
      ≡ at (codes "eff_assignments") 1 5
  pub falls : with_effects (in_effect (codes "1;Q") 1 (day 1) open_end ∷ in_effect (codes "1;P") 1 (day 1) open_end ∷ []) ≡ at (codes "eff_assignments") 2 6
  pub date_falls : with_effects (in_effect (codes "1;P") 2 (day 2) open_end ∷ in_effect (codes "1;Q") 1 (day 1) open_end ∷ []) ≡ at (codes "eff_assignments") 2 6
  pub parent_twice : with_effects (in_effect (codes "1;P") 1 (day 1) open_end ∷ in_effect (codes "1;P") 1 (day 1) open_end ∷ []) ≡ at (codes "eff_assignments") 2 6
  pub other_source : with_effects (record (in_effect (codes "1;P") 1 (day 1) open_end) { source = codes "hr" } ∷ []) ≡ at (codes "eff_assignments") 1 8
  pub other_parent : with_effects (in_effect (codes "1;R") 1 (day 1) open_end ∷ []) ≡ at (codes "eff_assignments") 1 9
  pub hub_parent : with_effects (in_effect (codes "1") 1 (day 1) open_end ∷ []) ≡ at (codes "eff_assignments") 1 9
  pub closed_at_once : with_effects (in_effect (codes "1;P") 1 (day 1) (day 1) ∷ []) ≡ at (codes "eff_assignments") 1 12
  pub began_before : with_effects (in_effect (codes "1;P") 2 (day 1) open_end ∷ []) ≡ at (codes "eff_assignments") 1 12
  pub ends_later : with_effects (in_effect (codes "1;P") 2 (day 1) (day 3) ∷ []) ≡ at (codes "eff_assignments") 1 12
  pub ends_before : with_effects (in_effect (codes "1;P") 2 (day 0) (day 1) ∷ []) ≡ at (codes "eff_assignments") 1 12
  pub opens_later : with_effects (in_effect (codes "1;P") 2 (day 3) open_end ∷ []) ≡ at (codes "eff_assignments") 1 12
  pub begins_later : with_effects (in_effect (codes "1;P") 2 (day 3) (day 2) ∷ []) ≡ at (codes "eff_assignments") 1 12

-- ---- rows that break several rules

-- rows that each stand second in a table, and what of each is named
abbrev pub each_second : {R : Type 0} → (List R → Option Damage) → R → List R → List (Option Damage)
each_second damage_of first rows = map (λ row. damage_of (first ∷ row ∷ [])) rows

abbrev pub at_second : List ℕ → List ℕ → List (Option Damage)
at_second table rules = map (at table 2) rules

-- Each row breaks the rules that stand beside it, and all that stand beside the rows below: so the least is named,
-- whatever two are broken.
pub record LeastRuleNamed : Type 0 where
  pub of_hub :
      each_second with_hubs (customer (codes "2") 1) (
      record { digest = dotted (codes "2"); load = day 0; source = []; key = place (codes "1") (codes "A") }
      ∷ record { digest = dotted (codes "2"); load = day 0; source = []; key = key (codes "1") }
      ∷ record { digest = dotted (codes "2"); load = day 1; source = []; key = key (codes "1") }
      ∷ record { digest = dotted (codes "2"); load = day 2; source = []; key = key (codes "1") }
      ∷ record { digest = dotted (codes "2"); load = day 2; source = []; key = key (codes "2") }
      ∷ customer (codes "2") 2
      ∷ [])
      ≡ at_second (codes "hub_customer") (4 ∷ 5 ∷ 6 ∷ 7 ∷ 8 ∷ 10 ∷ [])
  -- but that the digest of an earlier row is in the last three alone, since no sound row has the zero key
  pub of_link :
      each_second with_links (working (codes "1") (codes "P") 1) (
      record { digest = replicate 8 0; load = day 0; source = []; hubs = dotted (codes "9") ∷ [] }
      ∷ record { digest = replicate 8 0; load = day 0; source = []; hubs = dotted (codes "9") ∷ dotted (codes "P") ∷ [] }
      ∷ record { digest = replicate 8 0; load = day 1; source = []; hubs = dotted (codes "9") ∷ dotted (codes "P") ∷ [] }
      ∷ record { digest = replicate 8 0; load = day 2; source = []; hubs = dotted (codes "9") ∷ dotted (codes "P") ∷ [] }
      ∷ record { digest = dotted (codes "1;P"); load = day 2; source = []; hubs = dotted (codes "9") ∷ dotted (codes "P") ∷ [] }
      ∷ record { digest = dotted (codes "1;P"); load = day 2; source = codes "hr.assignments"; hubs = dotted (codes "9") ∷ dotted (codes "P") ∷ [] }
      ∷ working (codes "1") (codes "P") 2
      ∷ [])
      ≡ at_second (codes "link_works") (4 ∷ 5 ∷ 6 ∷ 7 ∷ 8 ∷ 9 ∷ 10 ∷ [])
  pub of_sat :
      each_second with_sats (named (codes "2") 1 (codes "y")) (
      record { parent = dotted (codes "0"); load = day 0; source = []; diff = dotted (codes "y"); attrs = [] }
      ∷ record { parent = dotted (codes "0"); load = day 0; source = []; diff = dotted (codes "y"); attrs = codes "x" ∷ [] }
      ∷ record { parent = dotted (codes "0"); load = day 1; source = []; diff = dotted (codes "y"); attrs = codes "x" ∷ [] }
      ∷ record { parent = dotted (codes "0"); load = day 2; source = []; diff = dotted (codes "y"); attrs = codes "x" ∷ [] }
      ∷ record { parent = dotted (codes "0"); load = day 2; source = []; diff = dotted (codes "x"); attrs = codes "x" ∷ [] }
      ∷ named (codes "0") 2 (codes "x")
      ∷ [])
      ≡ at_second (codes "sat_customers") (4 ∷ 5 ∷ 6 ∷ 7 ∷ 8 ∷ 9 ∷ [])
  pub of_multi :
      each_second with_multis (phoned (codes "1") 1 (codes "home") (codes "10")) (
      record { parent = dotted (codes "0"); load = day 0; source = []; diff = dotted (codes "10"); sub = []; attrs = codes "12" ∷ [] }
      ∷ record { parent = dotted (codes "0"); load = day 0; source = []; diff = dotted (codes "10"); sub = codes "fax" ∷ []; attrs = codes "12" ∷ [] }
      ∷ record { parent = dotted (codes "0"); load = day 1; source = []; diff = dotted (codes "10"); sub = codes "fax" ∷ []; attrs = codes "12" ∷ [] }
      ∷ record { parent = dotted (codes "0"); load = day 2; source = []; diff = dotted (codes "10"); sub = codes "fax" ∷ []; attrs = codes "12" ∷ [] }
      ∷ record { parent = dotted (codes "0"); load = day 2; source = []; diff = dotted (codes "12"); sub = codes "fax" ∷ []; attrs = codes "12" ∷ [] }
      ∷ phoned (codes "0") 2 (codes "fax") (codes "12")
      ∷ [])
      ≡ at_second (codes "msat_phones") (4 ∷ 5 ∷ 6 ∷ 7 ∷ 8 ∷ 9 ∷ [])
  pub of_status :
      each_second with_statuses (coded (codes "2") 1 I) (
      record { parent = codes "0"; load = day 0; source = []; code = D }
      ∷ record { parent = dotted (codes "0"); load = day 0; source = []; code = D }
      ∷ record { parent = dotted (codes "0"); load = day 1; source = []; code = D }
      ∷ record { parent = dotted (codes "0"); load = day 2; source = []; code = D }
      ∷ coded (codes "0") 2 D
      ∷ coded (codes "1") 2 D
      ∷ [])
      ≡ at_second (codes "status_customers") (4 ∷ 5 ∷ 6 ∷ 8 ∷ 9 ∷ 11 ∷ [])
  pub of_effect :
      each_second with_effects (in_effect (codes "1;P") 1 (day 1) open_end) (
      record { parent = codes "0"; load = day 0; source = []; begin = day 9; end = open_end }
      ∷ record { parent = dotted (codes "0"); load = day 0; source = []; begin = day 9; end = open_end }
      ∷ record { parent = dotted (codes "0"); load = day 1; source = []; begin = day 9; end = open_end }
      ∷ record { parent = dotted (codes "0"); load = day 2; source = []; begin = day 9; end = open_end }
      ∷ in_effect (codes "0") 2 (day 9) open_end
      ∷ in_effect (codes "1;P") 2 (day 9) open_end
      ∷ [])
      ≡ at_second (codes "eff_assignments") (4 ∷ 5 ∷ 6 ∷ 8 ∷ 9 ∷ 12 ∷ [])

-- several rows and rules
pub record OrderOfDamage : Type 0 where
  -- of the rules that a row breaks the least is named
  pub fourth_first : with_hubs (record (customer (codes "1") 5) { digest = codes "1"; source = [] } ∷ []) ≡ at (codes "hub_customer") 1 4
  pub fifth_first : with_hubs (customer (codes "2") 1 ∷ customer (codes "1") 0 ∷ []) ≡ at (codes "hub_customer") 2 5
  pub sixth_first : with_hubs (customer (codes "2") 1 ∷ record (customer (codes "1") 1) { digest = dotted (codes "0") } ∷ []) ≡ at (codes "hub_customer") 2 6
  pub seventh_first : with_sats (record (named (codes "1") 1 (codes "x")) { diff = dotted (codes "y"); source = [] } ∷ []) ≡ at (codes "sat_customers") 1 7
  pub eighth_first : with_statuses (record (coded (codes "3") 1 D) { source = [] } ∷ []) ≡ at (codes "status_customers") 1 8
  pub ninth_first : with_statuses (coded (codes "3") 1 D ∷ []) ≡ at (codes "status_customers") 1 9
  pub tenth_last : with_links (working (codes "1") (codes "P") 1 ∷ record (working (codes "1") (codes "P") 2) { hubs = dotted (codes "9") ∷ dotted (codes "P") ∷ [] } ∷ []) ≡ at (codes "link_works") 2 9
  -- of two rows the first
  pub first_row : with_hubs (record (customer (codes "1") 1) { source = [] } ∷ record (customer (codes "2") 1) { digest = codes "2" } ∷ []) ≡ at (codes "hub_customer") 1 8
  pub second_row : with_hubs (customer (codes "1") 1 ∷ record (customer (codes "2") 1) { source = [] } ∷ record (customer (codes "3") 1) { digest = codes "3" } ∷ []) ≡ at (codes "hub_customer") 2 8
  -- of two tables the one that stands first in table order, wherever the store has it
  pub first_table :
      in_rows with_names (with_other (Sat 0) (Sats (named (codes "1") 1 (codes "x") ∷ named (codes "3") 1 (codes "x") ∷ [])) (with_other (Status 0) (Statuses (coded (codes "1") 1 D ∷ [])) customers_store))
      ≡ at (codes "sat_customers") 2 9
  pub later_entry_first :
      in_rows with_names (record customers_store { tables = record { table = Sat 0; rows = Sats (named (codes "3") 1 (codes "x") ∷ []) } ∷ record { table = Hub 0; rows = Hubs (record (customer (codes "1") 1) { source = [] } ∷ []) } ∷ [] })
      ≡ at (codes "hub_customer") 1 8
  -- rows of a table that isn't the mapping's are not looked at
  pub other_table : in_rows with_names (record customers_store { tables = record { table = Effect 0; rows = Effects (in_effect [] 9 0 0 ∷ []) } ∷ customers_store.tables }) ≡ None
  -- a table without its entry has no rows
  pub hub_lacking : in_rows with_names (record customers_store { tables = record { table = Sat 0; rows = Sats two_names } ∷ [] }) ≡ at (codes "sat_customers") 1 9

-- a window of the third day is open over the two customers: one of them again, and a new one
abbrev pub third_day : Window
third_day = window 3 (staged 0 (named_row (codes "1") (codes "x") ∷ named_row (codes "3") (codes "z") ∷ []) ∷ [])

-- rows while a window is open
pub record OpenDamaged : Type 0 where
  -- whichever number of tables has its batch
  pub in_some : map (λ k. in_rows with_names (kept_open with_names emptied third_day k)) (0 ∷ 1 ∷ 2 ∷ 3 ∷ []) ≡ None ∷ None ∷ None ∷ None ∷ []
  pub of_first : map (λ k. in_rows with_drivers (kept_open with_drivers [] (window 1 (staged 0 (pair_row (codes "1") (codes "P") ∷ []) ∷ [])) k)) (0 ∷ 1 ∷ 2 ∷ 3 ∷ 4 ∷ 5 ∷ []) ≡ None ∷ None ∷ None ∷ None ∷ None ∷ None ∷ []
  -- rows of its date are damage where it isn't open, or hasn't the feed
  pub not_open : in_rows with_names (record (kept_open with_names emptied third_day 1) { stage = None }) ≡ at (codes "hub_customer") 3 5
  pub without_feed :
      in_rows with_accounts (record (with_other (Status 0) (Statuses (coded (codes "1") 1 I ∷ coded (codes "1") 3 D ∷ [])) (kept with_accounts one_absent)) { stage = Some (window 3 (staged 1 [] ∷ [])) })
      ≡ at (codes "status_customers") 2 5
  pub with_feed :
      in_rows with_accounts (record (with_other (Status 0) (Statuses (coded (codes "1") 1 I ∷ coded (codes "1") 3 D ∷ [])) (kept with_accounts one_absent)) { stage = Some (window 3 (staged 0 [] ∷ [])) })
      ≡ None
