-- What the tables say of dates.
use Rattle.std.specs.Option.{option_map}
use Rattle.std.specs.Prelude.{◌≡◌, ◌+◌, true, false, List, [], ◌∷◌, Some, None, codes, reverse}
use Rattle.dv_text.specs.Stamps.{open_end}
use Rattle.dv_catalog.specs.declared.entries.Parent.TheVariants.{Hub}
use Rattle.dv_catalog.specs.Feeds.{source}
use Rattle.dv_records.specs.declared.raw_rows.Code.TheVariants.{I, D}
use Rattle.dv_records.specs.declared.raw_rows.EffectRow.{EffectRow}
use Rattle.dv_records.specs.declared.raw_rows.HubRow.{HubRow}
use Rattle.dv_records.specs.declared.raw_rows.MultiRow.{MultiRow}
use Rattle.dv_records.specs.declared.raw_rows.SatRow.{SatRow}
use Rattle.dv_records.specs.declared.raw_rows.StatusRow.{StatusRow}
use Rattle.dv_records.specs.Batches.{appended}
use Rattle.dv_records.specs.Collisions.{collision_in}
use Rattle.dv_records.specs.EffectPeriods.{effect_periods, in_effect_since, is_of_one_run, last_of_runs}
use Rattle.dv_records.specs.History.{IsInLoadOrder, history, up_to}
use Rattle.dv_records.specs.Hubs.{hub_batch}
use Rattle.dv_records.specs.Reconstruction.{HasKeysAlone, all_valid_at, first_attrs, present_at, present_keys, valid_at}
use Rattle.dv_records.specs.Satellites.{last_rows}
use Rattle.dv_records.specs.Snapshots.{changed_at}
use Rattle.dv_records.specs.Statuses.{status_batch}
use Rattle.dv_records.specs.Vault.{feed_batch}
use Rattle.dv_shown.specs.Mappings.{bare}
use Rattle.dv_shown.specs.Windows.{coming_and_going, fewer_phones, keys_come_and_go, older_again}
use Rattle.dv_shown.specs.Words.{bare_row, day, in_effect, in_multi, in_sat, in_status, key, leap_day, plain, year_2030}

-- a key appears, vanishes and appears again, among the rows of another
abbrev pub appearing : List StatusRow
appearing =
    in_status (codes "1") 1 (codes "crm.customers") I
    ∷ in_status (codes "2") 1 (codes "crm.customers") I
    ∷ in_status (codes "1") 2 (codes "crm.customers") D
    ∷ in_status (codes "1") 3 (codes "crm.customers") I
    ∷ in_status (codes "2") 3 (codes "crm.customers") D
    ∷ []

pub record PresenceHolds : Type 0 where
  pub before : present_at appearing (codes "1") leap_day ≡ false
  pub comes : present_at appearing (codes "1") (day 1) ≡ true
  pub goes : present_at appearing (codes "1") (day 2) ≡ false
  pub comes_again : present_at appearing (codes "1") (day 3) ≡ true
  pub other_stays : present_at appearing (codes "2") (day 2) ≡ true
  pub other_goes : present_at appearing (codes "2") (day 4) ≡ false
  pub unknown : present_at appearing (codes "3") (day 4) ≡ false

-- an attribute changes and changes back, among the rows of another parent
abbrev pub changing : List SatRow
changing =
    in_sat (codes "1") 1 (codes "crm.customers") (codes "x")
    ∷ in_sat (codes "2") 1 (codes "crm.customers") (codes "z")
    ∷ in_sat (codes "1") 2 (codes "crm.customers") (codes "y")
    ∷ in_sat (codes "1") 3 (codes "crm.customers") (codes "x")
    ∷ []

pub record ValidHold : Type 0 where
  pub before : valid_at changing (codes "1") leap_day ≡ None
  pub first : valid_at changing (codes "1") (day 1) ≡ Some (in_sat (codes "1") 1 (codes "crm.customers") (codes "x"))
  pub second : valid_at changing (codes "1") (day 2) ≡ Some (in_sat (codes "1") 2 (codes "crm.customers") (codes "y"))
  pub third : valid_at changing (codes "1") year_2030 ≡ Some (in_sat (codes "1") 3 (codes "crm.customers") (codes "x"))
  pub other : valid_at changing (codes "2") (day 3) ≡ Some (in_sat (codes "2") 1 (codes "crm.customers") (codes "z"))
  pub unknown : valid_at changing (codes "3") (day 3) ≡ None
  -- the attributes of when the key was last there
  pub last_there : first_attrs (last_rows (up_to (day 2) (history 0 (reverse coming_and_going))) (key (codes "1") ∷ [])) ≡ Some (codes "abc" ∷ [])
  pub never_there : first_attrs (last_rows (up_to (day 2) (history 0 (reverse coming_and_going))) (key (codes "2") ∷ [])) ≡ None

-- the satellite's rows of an attribute that changes, before its key goes and comes again with the older one
abbrev pub sats_shown : List SatRow
sats_shown =
    in_sat (codes "1") 1 (codes "crm.customers") (codes "x")
    ∷ in_sat (codes "1") 2 (codes "crm.customers") (codes "y")
    ∷ in_sat (codes "1") 4 (codes "crm.customers") (codes "x")
    ∷ []

-- the rows of two owners, of whom one loses a number
abbrev pub multis_shown : List MultiRow
multis_shown =
    in_multi (codes "1") 1 (codes "crm.phones") (codes "home") (codes "10")
    ∷ in_multi (codes "1") 1 (codes "crm.phones") (codes "work") (codes "11")
    ∷ in_multi (codes "2") 1 (codes "crm.phones") (codes "fax") (codes "20")
    ∷ in_multi (codes "1") 2 (codes "crm.phones") (codes "work") (codes "11")
    ∷ []

-- a point-in-time row's load date is that of the satellite row that is valid at its date: the row's, and then the cell's
pub record CellsTold : Type 0 where
  -- notices a load date past the date, and that of an extract without the key
  pub row_before : option_map (λ row. row.load) (valid_at sats_shown (codes "1") leap_day) ≡ None
  pub cell_before : changed_at (up_to leap_day (history 0 (reverse older_again))) (key (codes "1") ∷ []) ≡ None
  pub row_second : option_map (λ row. row.load) (valid_at sats_shown (codes "1") (day 2)) ≡ Some (day 2)
  pub cell_second : changed_at (up_to (day 2) (history 0 (reverse older_again))) (key (codes "1") ∷ []) ≡ Some (day 2)
  pub row_gone : option_map (λ row. row.load) (valid_at sats_shown (codes "1") (day 3)) ≡ Some (day 2)
  pub cell_gone : changed_at (up_to (day 3) (history 0 (reverse older_again))) (key (codes "1") ∷ []) ≡ Some (day 2)
  pub row_again : option_map (λ row. row.load) (valid_at sats_shown (codes "1") year_2030) ≡ Some (day 4)
  pub cell_again : changed_at (up_to year_2030 (history 0 (reverse older_again))) (key (codes "1") ∷ []) ≡ Some (day 4)
  pub rows_fewer : all_valid_at multis_shown (codes "1") (day 2) ≡ in_multi (codes "1") 2 (codes "crm.phones") (codes "work") (codes "11") ∷ []
  pub cell_fewer : changed_at (up_to (day 2) (history 0 (reverse fewer_phones))) (key (codes "1") ∷ []) ≡ Some (day 2)
  pub rows_first : all_valid_at multis_shown (codes "1") (day 1) ≡
      in_multi (codes "1") 1 (codes "crm.phones") (codes "home") (codes "10") ∷ in_multi (codes "1") 1 (codes "crm.phones") (codes "work") (codes "11") ∷ []
  pub cell_first : changed_at (up_to (day 1) (history 0 (reverse fewer_phones))) (key (codes "1") ∷ []) ≡ Some (day 1)
  -- notices the load date of the last extract that held the key
  pub rows_of_other : all_valid_at multis_shown (codes "2") (day 2) ≡ in_multi (codes "2") 1 (codes "crm.phones") (codes "fax") (codes "20") ∷ []
  pub cell_of_other : changed_at (up_to (day 2) (history 0 (reverse fewer_phones))) (key (codes "2") ∷ []) ≡ Some (day 1)

-- the effectivity rows of an employee who changes department and comes back
abbrev pub effects_shown : List EffectRow
effects_shown =
    in_effect (codes "1;P") 1 (codes "hr.assignments") (day 1) open_end
    ∷ in_effect (codes "1;P") 2 (codes "hr.assignments") (day 1) (day 2)
    ∷ in_effect (codes "1;Q") 2 (codes "hr.assignments") (day 2) open_end
    ∷ in_effect (codes "1;P") 3 (codes "hr.assignments") (day 3) open_end
    ∷ in_effect (codes "1;Q") 3 (codes "hr.assignments") (day 2) (day 3)
    ∷ []

pub record PeriodsTold : Type 0 where
  -- of each run its closing row, else its opening one: notices a run that is told twice, and one that closes but has no row
  pub all : effect_periods effects_shown year_2030 ≡
      record { parent = codes "1;P"; begin = day 1; end = day 2 }
      ∷ record { parent = codes "1;P"; begin = day 3; end = open_end }
      ∷ record { parent = codes "1;Q"; begin = day 2; end = day 3 }
      ∷ []
  -- notices the closing row of a run that ends later, and a run that begins later
  pub earlier : effect_periods effects_shown (day 2) ≡
      record { parent = codes "1;P"; begin = day 1; end = day 2 } ∷ record { parent = codes "1;Q"; begin = day 2; end = open_end } ∷ []
  pub between : effect_periods effects_shown (day 2 + 1) ≡
      record { parent = codes "1;P"; begin = day 1; end = day 2 } ∷ record { parent = codes "1;Q"; begin = day 2; end = open_end } ∷ []
  pub first : effect_periods effects_shown (day 1) ≡ record { parent = codes "1;P"; begin = day 1; end = open_end } ∷ []
  pub before : effect_periods effects_shown leap_day ≡ []
  -- notices rows of one run by their parent alone, or by their begin alone
  pub other_run : is_of_one_run (in_effect (codes "1;P") 2 [] (day 1) (day 2)) (in_effect (codes "1;P") 3 [] (day 3) open_end) ≡ false
  pub other_parent : is_of_one_run (in_effect (codes "1;P") 1 [] (day 1) open_end) (in_effect (codes "1;R") 1 [] (day 1) open_end) ≡ false
  pub last_two : last_of_runs effects_shown ≡
      in_effect (codes "1;P") 2 (codes "hr.assignments") (day 1) (day 2)
      ∷ in_effect (codes "1;P") 3 (codes "hr.assignments") (day 3) open_end
      ∷ in_effect (codes "1;Q") 3 (codes "hr.assignments") (day 2) (day 3)
      ∷ []
  -- since when one is in effect: notices what is said by a closing row, by the first row, by later rows and by rows of others
  pub since_before : in_effect_since effects_shown (codes "1;P") leap_day ≡ None
  pub since_first : in_effect_since effects_shown (codes "1;P") (day 1) ≡ Some (day 1)
  pub since_ended : in_effect_since effects_shown (codes "1;P") (day 2) ≡ None
  pub since_other : in_effect_since effects_shown (codes "1;Q") (day 2) ≡ Some (day 2)
  pub since_again : in_effect_since effects_shown (codes "1;P") year_2030 ≡ Some (day 3)
  pub since_other_ended : in_effect_since effects_shown (codes "1;Q") year_2030 ≡ None
  pub since_unknown : in_effect_since effects_shown (codes "1;R") (day 3) ≡ None

abbrev pub hubs_shown : List HubRow
hubs_shown = appended (hub_batch bare plain 0) (reverse keys_come_and_go)

abbrev pub statuses_shown : List StatusRow
statuses_shown = appended (feed_batch 0 (status_batch plain (source bare 0))) (reverse keys_come_and_go)

pub record RestoredHold : Type 0 where
  pub none : present_keys hubs_shown statuses_shown leap_day ≡ []
  pub first : present_keys hubs_shown statuses_shown (day 1) ≡ bare_row (codes "A1") ∷ bare_row (codes "A2") ∷ []
  pub second : present_keys hubs_shown statuses_shown (day 2) ≡ bare_row (codes "A2") ∷ bare_row (codes "A3") ∷ []
  pub empty : present_keys hubs_shown statuses_shown (day 3) ≡ []
  pub again : present_keys hubs_shown statuses_shown (day 4) ≡ bare_row (codes "A1") ∷ []

-- what reading back asks of windows holds of these
pub record PremisesMet : Type 0 where
  pub order : IsInLoadOrder keys_come_and_go
  pub keys : HasKeysAlone 0 keys_come_and_go
  pub free : collision_in bare plain keys_come_and_go (Hub 0) ≡ None
