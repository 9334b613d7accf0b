-- What comes of windows that are given.
use Rattle.std.specs.Prelude.{◌≡◌, ℕ, List, [], ◌∷◌, ◌++◌, Some, None, codes, replicate, true, false}
use Rattle.dv_text.specs.declared.rows.Key.{Key}
use Rattle.dv_text.specs.declared.rows.NRow.{NRow}
use Rattle.dv_text.specs.declared.rows.Window.{Window}
use Rattle.dv_catalog.specs.declared.rules.Rule.TheVariants.{NoExtracts, UnknownFeed, FeedTwice, Late, OpenOther, TooLong, NoHeader, TwoRows, Differs, Collision, VaultFull, UnmappedColumn, MissingColumn, TwoDrivers}
use Rattle.dv_catalog.specs.declared.windows.ExtractIn.{ExtractIn}
use Rattle.dv_catalog.specs.declared.windows.WindowIn.{WindowIn}
use Rattle.dv_catalog.specs.Entries.{Mapping}
use Rattle.dv_records.specs.declared.answers.Outcome.{Outcome}
use Rattle.dv_records.specs.declared.answers.Outcome.TheVariants.{Load, Repeated, Refused}
use Rattle.dv_records.specs.Outcomes.{full_at, late_after, outcome, too_long_behind}
use Rattle.dv_records.specs.States.{State, all_windows, are_dates_valid, are_windows_valid, ascends, beginning, head_of, is_field, is_key_part, is_valid_state, is_window, last_load, snapshots_weight}
use Rattle.dv_shown.specs.Mappings.{bare, with_accounts, with_drivers, with_names, with_orders, with_phones, with_sites, with_teams}
use Rattle.dv_shown.specs.Windows.{begun_alike, once, tiers_later, two_keys}
use Rattle.dv_shown.specs.Words.{bare_row, day, key, named_row, plain, row, staged, tiny, window}

-- a window of the n-th day, as it is given
abbrev pub given : ℕ → List ExtractIn → WindowIn
given n extracts = record { load = day n; extracts = extracts }

abbrev pub extract : List ℕ → List ℕ → ExtractIn
extract feed bytes = record { feed = feed; bytes = bytes }

-- a feed of keys and names, with these bytes
abbrev pub of_customers : List ℕ → List ExtractIn
of_customers bytes = extract (codes "customers") bytes ∷ []

abbrev pub of_accounts : List ℕ → List ExtractIn
of_accounts bytes = extract (codes "accounts") bytes ∷ []

-- sealed windows, none open
abbrev pub sealed : List Window → State
sealed windows = record { sealed = windows; begun = None; dates = [] }

-- the first of these windows is open
abbrev pub begun : Window → State
begun window = record { sealed = []; begun = Some window; dates = [] }

-- what comes of a window under plain digests
abbrev pub of_window : Mapping → State → WindowIn → Outcome
of_window mapping state window = outcome mapping plain state window

abbrev pub of_named : State → WindowIn → Outcome
of_named state window = of_window with_names state window

-- the window of the first day with one key
abbrev pub first : WindowIn
first = given 1 (of_customers (codes "CUST_NO,NAME\n1,abc\n"))

abbrev pub first_loaded : Window
first_loaded = window 1 (staged 0 (named_row (codes "1") (codes "abc") ∷ []) ∷ [])

-- a key of two parts
abbrev pub site : List ℕ → List ℕ → Key
site region place = record { parts = region ∷ place ∷ [] }

-- a window of two keys with one text
abbrev pub collided : Window
collided =
    window 1 (staged 0 (
    record { refs = site (codes "A") (codes "B;C") ∷ []; sub = []; attrs = [] }
    ∷ record { refs = site (codes "A;B") (codes "C") ∷ []; sub = []; attrs = [] }
    ∷ []) ∷ [])

-- a window of a day with these rows of the first feed
abbrev pub rows_on : ℕ → List NRow → Window
rows_on n rows = window n (staged 0 rows ∷ [])

-- the rules of a window and its load date
pub record WindowsAnswered : Type 0 where
  pub loads : of_named beginning first ≡ Load
  pub loads_later : of_named (sealed once) (given 2 (of_customers (codes "CUST_NO,NAME\n1,abc\n"))) ≡ Load
  pub repeated : of_named (sealed once) first ≡ Repeated
  pub goes_on : of_named (begun first_loaded) first ≡ Load
  pub no_extract : of_named beginning (given 1 []) ≡ Refused NoExtracts
  pub unknown : of_named beginning (given 1 (of_accounts (codes "ACCOUNT,TIER\n"))) ≡ Refused (UnknownFeed (codes "accounts"))
  pub first_unknown : of_named beginning (given 1 (extract (codes "b") [] ∷ extract (codes "customers") [] ∷ extract (codes "a") [] ∷ [])) ≡ Refused (UnknownFeed (codes "b"))
  pub twice : of_named beginning (given 1 (extract (codes "customers") [] ∷ extract (codes "customers") [] ∷ [])) ≡ Refused (FeedTwice (codes "customers"))
  pub twice_apart :
      of_window with_accounts beginning (given 1 (extract (codes "customers") [] ∷ extract (codes "accounts") [] ∷ extract (codes "customers") [] ∷ []))
      ≡ Refused (FeedTwice (codes "customers"))
  pub unknown_before_twice :
      of_named beginning (given 1 (extract (codes "customers") [] ∷ extract (codes "customers") [] ∷ extract (codes "a") [] ∷ []))
      ≡ Refused (UnknownFeed (codes "a"))
  pub late : of_named (sealed once) (given 0 (of_customers (codes "CUST_NO,NAME\n1,abc\n"))) ≡ Refused (Late (day 1))
  pub late_before_open :
      of_named (record { sealed = once; begun = Some (window 2 (staged 0 [] ∷ [])); dates = [] }) (given 0 (of_customers []))
      ≡ Refused (Late (day 1))
  pub same_is_not_late : late_after (Some (day 1)) (day 1) ≡ Some (Late (day 1))
  pub other_open : of_named (begun first_loaded) (given 2 (of_customers (codes "CUST_NO,NAME\n2,x\n"))) ≡ Refused (OpenOther (day 1))
  pub sealed_while_open :
      of_named (record { sealed = once; begun = Some (window 2 (staged 0 [] ∷ [])); dates = [] }) first
      ≡ Refused (OpenOther (day 2))
  pub twice_before_late :
      of_named (sealed once) (given 0 (extract (codes "customers") [] ∷ extract (codes "customers") [] ∷ []))
      ≡ Refused (FeedTwice (codes "customers"))
  pub long : too_long_behind 67108864 (of_customers (codes "C")) ≡ Some (TooLong (codes "customers"))
  pub long_enough : too_long_behind 67108863 (of_customers (codes "C")) ≡ None
  pub second_long : too_long_behind 67108863 (extract (codes "a") (codes "C") ∷ extract (codes "b") (codes "C") ∷ []) ≡ Some (TooLong (codes "b"))

-- the rules of its rows
pub record RowsAnswered : Type 0 where
  pub no_header : of_named (sealed once) (given 2 (of_customers [])) ≡ Refused (NoHeader (codes "customers"))
  pub late_before_rows : of_named (sealed once) (given 0 (of_customers [])) ≡ Refused (Late (day 1))
  pub two_rows : of_named beginning (given 1 (of_customers (codes "CUST_NO,NAME\n k1 ,n\nK1,m\n"))) ≡ Refused (TwoRows (codes "customers") 1 2)
  pub unmapped : of_named beginning (given 1 (of_customers (codes "CUST_NO,NAME,NOTES\n1,abc,hi\n"))) ≡ Refused (UnmappedColumn (codes "customers") (codes "NOTES"))
  pub two_drivers :
      of_window with_drivers beginning (given 1 (extract (codes "assignments") (codes "EMP,DEPT\n1,P\n1,Q\n") ∷ []))
      ≡ Refused (TwoDrivers (codes "assignments") (key (codes "1") ∷ []))
  -- one of two driving keys is shared, and both are: notices a rule that compares driving keys one by one
  pub one_driver_shared :
      of_window with_teams beginning (given 1 (extract (codes "teams") (codes "EMP,DEPT,PROJ\n1,P,X\n1,Q,Y\n") ∷ []))
      ≡ Load
  pub both_drivers_shared :
      of_window with_teams beginning (given 1 (extract (codes "teams") (codes "EMP,DEPT,PROJ\n1,P,X\n1,P,Y\n") ∷ []))
      ≡ Refused (TwoDrivers (codes "teams") (key (codes "1") ∷ key (codes "P") ∷ []))
  pub differs : of_named (sealed once) (given 1 (of_customers (codes "CUST_NO,NAME\n1,abd\n"))) ≡ Refused (Differs (day 1))
  pub differs_from_open : of_named (begun first_loaded) (given 1 (of_customers (codes "CUST_NO,NAME\n1,abd\n"))) ≡ Refused (Differs (day 1))
  pub other_feeds :
      of_window with_accounts (sealed once) (given 1 (of_customers (codes "CUST_NO,NAME\n1,abc\n") ++ of_accounts (codes "ACCOUNT,TIER\n")))
      ≡ Refused (Differs (day 1))
  pub other_feed : of_window with_accounts (sealed once) (given 1 (of_accounts (codes "ACCOUNT,TIER\n1,abc\n"))) ≡ Refused (Differs (day 1))
  pub read_before_differs : of_named (sealed once) (given 1 (of_customers (codes "CUST_NO\n1\n"))) ≡ Refused (MissingColumn (codes "customers") (codes "NAME"))
  -- the texts of both keys are `A;B;C`
  pub collides :
      of_window with_sites beginning (given 1 (extract (codes "sites") (codes "REGION,SITE\nA;B,C\nA,B;C\n") ∷ []))
      ≡ Refused (Collision (codes "hub_site") (site (codes "A") (codes "B;C") ∷ []) (site (codes "A;B") (codes "C") ∷ []))
  -- of a window that is open, or sealed, the last two rules are not asked again
  pub collided_goes_on : of_window with_sites (begun collided) (given 1 (extract (codes "sites") (codes "REGION,SITE\nA;B,C\nA,B;C\n") ∷ [])) ≡ Load
  pub collided_repeats : of_window with_sites (sealed (collided ∷ [])) (given 1 (extract (codes "sites") (codes "REGION,SITE\nA;B,C\nA,B;C\n") ∷ [])) ≡ Repeated
  -- digests that see the first byte alone
  pub collides_with_sealed :
      outcome with_names tiny (sealed (window 1 (staged 0 (named_row (codes "A1") (codes "x") ∷ []) ∷ []) ∷ [])) (given 2 (of_customers (codes "CUST_NO,NAME\nA2,x\n")))
      ≡ Refused (Collision (codes "hub_customer") (key (codes "A1") ∷ []) (key (codes "A2") ∷ []))
  pub collides_later :
      outcome with_names tiny (sealed begun_alike) (given 3 (of_customers (codes "CUST_NO,NAME\nA1,x\nA2,x\n")))
      ≡ Refused (Collision (codes "hub_customer") (key (codes "A1") ∷ []) (key (codes "A2") ∷ []))
  pub begins_alike : outcome with_names tiny (sealed once) (given 2 (of_customers (codes "CUST_NO,NAME\n1,axe\n"))) ≡ Load

-- the limits of a vault
pub record LimitsAnswered : Type 0 where
  pub too_heavy : full_at 1073741825 0 ≡ Some (VaultFull 1073741825 0)
  pub just_heavy : full_at 1073741824 9999 ≡ None
  pub too_many : full_at 0 10000 ≡ Some (VaultFull 0 10000)

-- states that are valid, and such that are not
pub record StatesHold : Type 0 where
  pub beginning_is : is_valid_state with_names plain beginning ≡ true
  pub one : is_valid_state with_names plain (sealed once) ≡ true
  pub one_open : is_valid_state with_names plain (begun first_loaded) ≡ true
  pub with_snapshot : is_valid_state with_names plain (record { sealed = once; begun = None; dates = day 1 ∷ [] }) ≡ true
  pub snapshot_later : are_dates_valid with_names plain (record { sealed = once; begun = None; dates = day 2 ∷ [] }) ≡ false
  pub snapshot_twice : are_dates_valid with_names plain (record { sealed = once; begun = None; dates = day 1 ∷ day 1 ∷ [] }) ≡ false
  pub snapshot_of_nothing : are_dates_valid with_names plain (record { sealed = []; begun = None; dates = day 1 ∷ [] }) ≡ false
  pub twice : are_windows_valid with_names plain (once ++ once) ≡ false
  pub collided : are_windows_valid bare tiny two_keys ≡ false
  pub no_feed : is_window with_names (window 1 []) ≡ false
  pub unknown_feed : is_window with_names (window 1 (staged 1 [] ∷ [])) ≡ false
  pub feeds_ascend : is_window with_accounts (window 1 (staged 1 [] ∷ staged 0 [] ∷ [])) ≡ false
  pub not_normal : is_window with_names (window 1 (staged 0 (named_row (codes "a") (codes "x") ∷ []) ∷ [])) ≡ false
  pub blank_attribute : is_window with_names (window 1 (staged 0 (named_row (codes "A") (codes " x") ∷ []) ∷ [])) ≡ false
  pub unsorted : is_window with_names (window 1 (staged 0 (named_row (codes "B") (codes "x") ∷ named_row (codes "A") (codes "x") ∷ []) ∷ [])) ≡ false
  pub repeated_row : is_window with_names (window 1 (staged 0 (named_row (codes "A") (codes "x") ∷ named_row (codes "A") (codes "x") ∷ []) ∷ [])) ≡ false
  pub two_rows : is_window with_names (window 1 (staged 0 (named_row (codes "A") (codes "x") ∷ named_row (codes "A") (codes "y") ∷ []) ∷ [])) ≡ false
  pub key_missing : is_window with_names (window 1 (staged 0 (named_row [] (codes "x") ∷ []) ∷ [])) ≡ false
  pub attribute_missing : is_window with_names (window 1 (staged 0 (bare_row (codes "A") ∷ []) ∷ [])) ≡ false
  pub part_missing : is_window with_sites (window 1 (staged 0 (bare_row (codes "A") ∷ []) ∷ [])) ≡ false
  pub one_partner : is_window with_drivers (window 1 (staged 0 (row (codes "1" ∷ codes "P" ∷ []) [] [] ∷ row (codes "1" ∷ codes "Q" ∷ []) [] [] ∷ []) ∷ [])) ≡ false
  pub partners : is_window with_drivers (window 1 (staged 0 (row (codes "1" ∷ codes "P" ∷ []) [] [] ∷ row (codes "2" ∷ codes "P" ∷ []) [] [] ∷ []) ∷ [])) ≡ true
  pub driver_missing : is_window with_drivers (window 1 (staged 0 (row ([] ∷ codes "P" ∷ []) [] [] ∷ []) ∷ [])) ≡ false
  pub partner_missing : is_window with_drivers (window 1 (staged 0 (row (codes "1" ∷ [] ∷ []) [] [] ∷ []) ∷ [])) ≡ true
  pub two_keys_of_one_name : is_window with_names (rows_on 1 (named_row (codes "A") (codes "x") ∷ named_row (codes "B") (codes "y") ∷ [])) ≡ true
  pub two_subs : is_window with_phones (rows_on 1 (row (codes "1" ∷ []) (codes "fax" ∷ []) (codes "12" ∷ []) ∷ row (codes "1" ∷ []) (codes "work" ∷ []) (codes "11" ∷ []) ∷ [])) ≡ true
  pub blank_sub : is_window with_phones (rows_on 1 (row (codes "1" ∷ []) (codes "fax " ∷ []) (codes "12" ∷ []) ∷ [])) ≡ false
  pub no_sub : is_window with_phones (rows_on 1 (row (codes "1" ∷ []) [] (codes "12" ∷ []) ∷ [])) ≡ false
  pub one_reference : is_window with_drivers (rows_on 1 (row (codes "1" ∷ []) [] [] ∷ [])) ≡ false
  pub three_references : is_window with_drivers (rows_on 1 (row (codes "1" ∷ codes "P" ∷ codes "X" ∷ []) [] [] ∷ [])) ≡ false
  pub second_not_normal : is_window with_drivers (rows_on 1 (row (codes "1" ∷ codes "p" ∷ []) [] [] ∷ [])) ≡ false
  pub references_missing : is_window with_orders (rows_on 1 (row ([] ∷ [] ∷ []) [] [] ∷ [])) ≡ false
  pub one_of_two_drivers_missing : is_window with_teams (rows_on 1 (row (codes "1" ∷ [] ∷ codes "X" ∷ []) [] [] ∷ [])) ≡ false
  pub two_drivers_there : is_window with_teams (rows_on 1 (row (codes "1" ∷ codes "P" ∷ [] ∷ []) [] [] ∷ [])) ≡ true
  pub one_of_two_drivers_shared : is_window with_teams (rows_on 1 (row (codes "1" ∷ codes "P" ∷ codes "X" ∷ []) [] [] ∷ row (codes "1" ∷ codes "Q" ∷ codes "Y" ∷ []) [] [] ∷ [])) ≡ true
  pub both_drivers_shared : is_window with_teams (rows_on 1 (row (codes "1" ∷ codes "P" ∷ codes "X" ∷ []) [] [] ∷ row (codes "1" ∷ codes "P" ∷ codes "Y" ∷ []) [] [] ∷ [])) ≡ false
  pub full_field : is_field (replicate 4096 65) ≡ true
  pub long_field : is_field (replicate 4097 65) ≡ false
  pub full_key : is_key_part (replicate 4096 65) ≡ true
  pub long_key : is_key_part (replicate 4097 65) ≡ false
  pub third_before_second : ascends (1 ∷ 3 ∷ 2 ∷ []) ≡ false
  pub sealed_then_open : all_windows (record { sealed = once; begun = Some (rows_on 2 []); dates = [] }) ≡ once ++ rows_on 2 [] ∷ []
  pub open_after_sealed : is_valid_state with_names plain (record { sealed = once; begun = Some (rows_on 2 []); dates = [] }) ≡ true
  pub sealed_of_no_feed : is_valid_state with_names plain (sealed (window 1 [] ∷ [])) ≡ false
  pub open_of_no_feed : is_valid_state with_names plain (begun (window 1 [])) ≡ false
  pub snapshot_past_last : is_valid_state with_names plain (record { sealed = once; begun = None; dates = day 2 ∷ [] }) ≡ false
  pub snapshots_fall : are_dates_valid with_names plain (record { sealed = once; begun = None; dates = day 1 ∷ day 0 ∷ [] }) ≡ false
  pub snapshots_weigh : snapshots_weight with_accounts plain tiers_later (day 1 ∷ day 2 ∷ []) ≡ 960
  pub head : head_of first_loaded ≡ record { load = day 1; feeds = 0 ∷ [] }
  pub last : last_load (first_loaded ∷ window 2 (staged 0 [] ∷ []) ∷ []) ≡ Some (day 2)
  pub last_of_none : last_load [] ≡ None
