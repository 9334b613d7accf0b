-- The counts behind the windows that `exercise` makes, and their load dates.
use Rattle.std.specs.Prelude.{◌≡◌, Some, codes}
use Rattle.dv_text.specs.Stamps.{stamp_of}
use Rattle.dv_app.specs.Exercised.{exercised}
use Rattle.dv_app.specs.Generated.{load_date}
use Rattle.dv_shown.specs.Words.{plain}

pub record ExerciseCounts : Type 0 where
  pub first_date : stamp_of (codes "2024-01-01T00:00:00") ≡ Some (load_date 0)
  pub last_date : stamp_of (codes "2024-01-04T00:00:00") ≡ Some (load_date 3)
  pub of_one : exercised plain 1 ≡ codes "windows 4\nrows 6\nhub_item 1\nsat_left 2\nstatus_left 1\nsat_right 1\nstatus_right 1\nfeed:left 1\nfeed:right 1\n"
  pub of_four : exercised plain 4 ≡ codes "windows 4\nrows 25\nhub_item 4\nsat_left 8\nstatus_left 9\nsat_right 2\nstatus_right 2\nfeed:left 3\nfeed:right 2\n"
