-- The first damage of whole stores, and what is past a limit, whatever else it is.
use Rattle.std.specs.Prelude.{◌≡◌, ℕ, ◌+◌, ◌<◌, ◌≤◌, true, List, [], ◌∷◌, ◌++◌, Option, Some, None, codes, is_none, false, length, map, replicate, sum_by, take}
use Rattle.dv_text.specs.declared.rows.NRow.{NRow}
use Rattle.dv_text.specs.declared.rows.Window.{Window}
use Rattle.dv_text.specs.declared.rows.WindowHead.{WindowHead}
use Rattle.dv_text.specs.Stamps.{open_end}
use Rattle.dv_catalog.specs.declared.tables.TableId.{TableId}
use Rattle.dv_catalog.specs.declared.tables.TableId.TheVariants.{Hub, Link, Sat, Multi, Status, Effect}
use Rattle.dv_catalog.specs.Entries.{Mapping}
use Rattle.dv_records.specs.declared.answers.Damage.{Damage}
use Rattle.dv_records.specs.declared.raw_rows.Code.TheVariants.{I, D}
use Rattle.dv_records.specs.declared.raw_rows.EffectRow.{EffectRow}
use Rattle.dv_records.specs.declared.raw_rows.HubRow.{HubRow}
use Rattle.dv_records.specs.declared.raw_rows.LinkRow.{LinkRow}
use Rattle.dv_records.specs.declared.raw_rows.MultiRow.{MultiRow}
use Rattle.dv_records.specs.declared.raw_rows.SatRow.{SatRow}
use Rattle.dv_records.specs.declared.raw_rows.StatusRow.{StatusRow}
use Rattle.dv_records.specs.declared.stores.Rows.{Rows}
use Rattle.dv_records.specs.declared.stores.Rows.TheVariants.{Hubs, Links, Sats, Multis, Statuses, Effects}
use Rattle.dv_records.specs.declared.stores.Store.{Store}
use Rattle.dv_records.specs.declared.stores.TableRows.{TableRows}
use Rattle.dv_records.specs.MemoryKeepers.{empty_store}
use Rattle.dv_records.specs.Weights.{rows_weight, tables_weight}
use Rattle.dv_store_rules.specs.declared.flaws.Flaw.{Flaw}
use Rattle.dv_store_rules.specs.Damages.{damage_in, form_damage}
use Rattle.dv_store_rules.specs.FormRules.{Known, is_light}
use Rattle.dv_store_rules.specs.StoredHeads.{head_rule, is_later, is_stage}
use Rattle.dv_store_rules.specs.StoredRows.{effect_rule, flaw_in, hub_rule, link_rule, multi_rule, sat_rule, status_rule}
use Rattle.dv_shown.specs.Damaged.{at, coded, customer, customers_store, head, in_effect, kept, kept_open, named, phoned, stage_of, third_day, two_customers, wide, with_other, working}
use Rattle.dv_shown.specs.Mappings.{with_accounts, with_all_kinds, with_drivers, with_names, with_orders, with_phones, with_stocks}
use Rattle.dv_shown.specs.Windows.{all_kinds, assignments, coming_and_going, emptied, one_absent, orders_again, phones, stocked, tiers_later}
use Rattle.dv_shown.specs.Words.{day, named_row, pair_row, staged, window}

-- the first damage of a store under a mapping
abbrev pub damage : Mapping → Store → Option Damage
damage mapping store = form_damage mapping wide 8 store

-- of the stores in which a window is open, one for each number of tables that have its batch
abbrev pub while_open : Mapping → List Window → Window → List ℕ → List (Option Damage)
while_open mapping windows window numbers = map (λ k. damage mapping (kept_open mapping windows window k)) numbers

-- no damage, so many times
abbrev pub none_of : ℕ → List (Option Damage)
none_of n = replicate n None

-- stores that stand for states have no damage
pub record StoresSound : Type 0 where
  pub no_window : damage with_names empty_store ≡ None
  pub of_two_feeds : damage with_accounts (kept with_accounts tiers_later) ≡ None
  pub feed_absent : damage with_accounts (kept with_accounts one_absent) ≡ None
  pub comes_again : damage with_names (kept with_names coming_and_going) ≡ None
  pub of_all_kinds : damage with_all_kinds (kept with_all_kinds all_kinds) ≡ None
  pub linked : damage with_orders (kept with_orders orders_again) ≡ None
  pub two_parts : damage with_stocks (kept with_stocks stocked) ≡ None
  pub driven : damage with_drivers (kept with_drivers assignments) ≡ None
  -- a window is open: over none, and over sealed ones; the first, some or all tables have its batch
  pub open_first : while_open with_names [] third_day (0 ∷ 1 ∷ 2 ∷ 3 ∷ []) ≡ none_of 4
  pub open_later : while_open with_names emptied third_day (0 ∷ 1 ∷ 2 ∷ 3 ∷ []) ≡ none_of 4
  pub open_driven :
      while_open with_drivers (take 2 assignments) (window 3 (staged 0 (pair_row (codes "1") (codes "P") ∷ []) ∷ [])) (0 ∷ 1 ∷ 2 ∷ 3 ∷ 4 ∷ 5 ∷ []) ≡ none_of 6
  pub open_phones : while_open with_phones (take 1 phones) (window 2 (staged 0 [] ∷ [])) (0 ∷ 1 ∷ 2 ∷ 3 ∷ []) ≡ none_of 4
  pub open_of_one_feed : while_open with_accounts tiers_later (window 3 (staged 0 (named_row (codes "4") (codes "x") ∷ []) ∷ [])) (0 ∷ 1 ∷ 3 ∷ 5 ∷ []) ≡ none_of 4

-- the order of what is looked at
pub record OrderOfStores : Type 0 where
  pub windows_first :
      damage with_names (record customers_store { windows = head 1 (0 ∷ []) ∷ head 2 [] ∷ []; stage = Some (window 2 []) }) ≡ at (codes "windows") 2 2
  pub stage_next :
      damage with_names (record (with_other (Hub 0) (Hubs (customer (codes "2") 1 ∷ customer (codes "1") 1 ∷ [])) customers_store) { stage = Some (window 2 (staged 0 [] ∷ [])) }) ≡ at (codes "stage") 1 3
  pub rows_next :
      damage with_names (record (with_other (Status 0) (Statuses (coded (codes "1") 1 D ∷ [])) customers_store) { stage = Some (window 3 (staged 0 [] ∷ [])) })
      ≡ at (codes "status_customers") 1 11
  -- digests of another width than the stored ones
  pub other_width : form_damage with_names wide 16 customers_store ≡ at (codes "hub_customer") 1 4

-- ---- limits

-- the tables before rows, and the rows, weigh more than a vault may
abbrev pub IsHeavy : Known → Rows → Type 0
IsHeavy known rows = 1073741824 < tables_weight known.tables + rows_weight rows

pub record DamagePastLimits : Type 0 where
  pub heavy : (known : Known) (rows : Rows) → IsHeavy known rows → is_light known rows ≡ false
  pub many_windows : (mapping : Mapping) (heads : List WindowHead) (head : WindowHead) → 10000 ≤ length heads → head_rule mapping heads head ≡ Some 2
  pub last_window : (heads : List WindowHead) (n : ℕ) → length heads ≡ 9999 → is_later heads (day n) ≡ true → head_rule with_accounts heads (head n (0 ∷ [])) ≡ None
  pub many_rows : (rows : List NRow) → 200000 < length rows → stage_of with_accounts 3 (staged 0 rows ∷ []) ≡ at (codes "stage") 1 3
  pub many_window_rows :
      (mapping : Mapping) (heads : List WindowHead) (window : Window)
      → 400000 < sum_by (λ staged. length staged.rows) window.extracts → is_stage mapping heads window ≡ false

-- what is read before a table: the heads of two windows, and tables
abbrev pub behind : Mapping → List TableRows → Known
behind mapping tables = record { mapping = mapping; hashes = wide; width = 8; heads = head 1 (0 ∷ []) ∷ head 2 (0 ∷ []) ∷ []; tables = tables }

abbrev pub flaw_at : ℕ → ℕ → Option Flaw
flaw_at row rule = Some (record { row = row; rule = rule })

-- the first row of a table, or none, that breaks a rule behind some first tables and others, which weigh so much together
abbrev pub Weighed : ℕ → Mapping → List TableRows → TableId → Rows → Option Flaw → Type 0
Weighed weight mapping first table rows flaw =
    (others : List TableRows) → tables_weight (first ++ others) ≡ weight → flaw_in (behind mapping (first ++ others)) table rows ≡ flaw

-- one customer, and one assignment, as tables of their own
abbrev pub one_customer : List TableRows
one_customer = record { table = Hub 0; rows = Hubs (customer (codes "1") 1 ∷ []) } ∷ []

abbrev pub one_work : List TableRows
one_work = record { table = Link 0; rows = Links (working (codes "1") (codes "P") 1 ∷ []) } ∷ []

-- an assignment of nobody to no department
abbrev pub nobody : ℕ → LinkRow
nobody n = record (working (codes "1") (codes "P") n) { hubs = replicate 8 0 ∷ replicate 8 0 ∷ [] }

-- Tables that weigh 1,073,741,824 up to the last row, and one more; and a row that breaks the rule before that of the
-- weight as well. Here a row of a hub weighs 174, of a link 222, of a satellite 206, of a multi-active satellite 223, of a
-- status table 157, and of an effectivity table 158.
pub record HeavyRows : Type 0 where
  pub hub_full : Weighed 1073741476 with_names [] (Hub 0) (Hubs two_customers) None
  pub hub_heavy : Weighed 1073741477 with_names [] (Hub 0) (Hubs two_customers) (flaw_at 2 13)
  -- notices rows behind the one that is asked
  pub hub_heavy_first : Weighed 1073741651 with_names [] (Hub 0) (Hubs two_customers) (flaw_at 1 13)
  pub hub_twice : Weighed 1073741650 with_names [] (Hub 0) (Hubs (customer (codes "1") 1 ∷ customer (codes "1") 2 ∷ [])) (flaw_at 2 10)
  -- whatever rows stand in a later table
  pub hub_before :
      (rows : List StatusRow)
      → damage_in with_names wide 8 (record empty_store { windows = head 1 (0 ∷ []) ∷ []; tables = one_customer ++ record { table = Status 0; rows = Statuses rows } ∷ [] }) [] (Hub 0)
      ≡ None
  pub link_full : Weighed 1073741602 with_drivers [] (Link 0) (Links (nobody 1 ∷ [])) None
  pub link_heavy : Weighed 1073741603 with_drivers [] (Link 0) (Links (nobody 1 ∷ [])) (flaw_at 1 13)
  pub link_twice : Weighed 1073741602 with_drivers [] (Link 0) (Links (nobody 1 ∷ nobody 2 ∷ [])) (flaw_at 2 10)
  pub sat_full : Weighed 1073741618 with_names one_customer (Sat 0) (Sats (named (codes "1") 1 (codes "x") ∷ [])) None
  pub sat_heavy : Weighed 1073741619 with_names one_customer (Sat 0) (Sats (named (codes "1") 1 (codes "x") ∷ [])) (flaw_at 1 13)
  pub sat_astray : Weighed 1073741824 with_names one_customer (Sat 0) (Sats (named (codes "3") 1 (codes "x") ∷ [])) (flaw_at 1 9)
  pub multi_full : Weighed 1073741601 with_phones one_customer (Multi 0) (Multis (phoned (codes "1") 1 (codes "fax") (codes "12") ∷ [])) None
  pub multi_heavy : Weighed 1073741602 with_phones one_customer (Multi 0) (Multis (phoned (codes "1") 1 (codes "fax") (codes "12") ∷ [])) (flaw_at 1 13)
  pub multi_astray : Weighed 1073741824 with_phones one_customer (Multi 0) (Multis (phoned (codes "3") 1 (codes "fax") (codes "12") ∷ [])) (flaw_at 1 9)
  pub status_full : Weighed 1073741667 with_names one_customer (Status 0) (Statuses (coded (codes "1") 1 I ∷ [])) None
  pub status_heavy : Weighed 1073741668 with_names one_customer (Status 0) (Statuses (coded (codes "1") 1 I ∷ [])) (flaw_at 1 13)
  pub status_gone_first : Weighed 1073741824 with_names one_customer (Status 0) (Statuses (coded (codes "1") 1 D ∷ [])) (flaw_at 1 11)
  pub effect_full : Weighed 1073741666 with_drivers one_work (Effect 0) (Effects (in_effect (codes "1;P") 1 (day 1) open_end ∷ [])) None
  pub effect_heavy : Weighed 1073741667 with_drivers one_work (Effect 0) (Effects (in_effect (codes "1;P") 1 (day 1) open_end ∷ [])) (flaw_at 1 13)
  pub effect_closed : Weighed 1073741824 with_drivers one_work (Effect 0) (Effects (in_effect (codes "1;P") 1 (day 1) (day 1) ∷ [])) (flaw_at 1 12)

-- a row with which the limit is passed breaks a rule in each table, whatever it is
pub record DamageByWeight : Type 0 where
  pub of_hub : (known : Known) (hub : ℕ) (before : List HubRow) (row : HubRow) → IsHeavy known (Hubs (before ++ row ∷ [])) → is_none (hub_rule known hub before row) ≡ false
  pub of_link : (known : Known) (link : ℕ) (before : List LinkRow) (row : LinkRow) → IsHeavy known (Links (before ++ row ∷ [])) → is_none (link_rule known link before row) ≡ false
  pub of_sat : (known : Known) (feed : ℕ) (before : List SatRow) (row : SatRow) → IsHeavy known (Sats (before ++ row ∷ [])) → is_none (sat_rule known feed before row) ≡ false
  pub of_multi : (known : Known) (feed : ℕ) (before : List MultiRow) (row : MultiRow) → IsHeavy known (Multis (before ++ row ∷ [])) → is_none (multi_rule known feed before row) ≡ false
  pub of_status : (known : Known) (feed : ℕ) (before : List StatusRow) (row : StatusRow) → IsHeavy known (Statuses (before ++ row ∷ [])) → is_none (status_rule known feed before row) ≡ false
  pub of_effect : (known : Known) (feed : ℕ) (before : List EffectRow) (row : EffectRow) → IsHeavy known (Effects (before ++ row ∷ [])) → is_none (effect_rule known feed before row) ≡ false
