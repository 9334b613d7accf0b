-- Contents of feeds at dates.
use Rattle.std.specs.Prelude.{◌≡◌, ◌-◌, [], ◌∷◌, codes}
use Rattle.dv_records.specs.History.{delivered_refs}
use Rattle.dv_records.specs.Marts.{feed_mart}
use Rattle.dv_shown.specs.Windows.{coming_and_going, emptied, once, one_absent, orders, phones, tiers_later, two_keys}
use Rattle.dv_shown.specs.Words.{bare_row, day, key, leap_day, named_row, pair_row, row, year_2030}

pub record ContentsHold : Type 0 where
  -- the rows of the window
  pub keys_alone : feed_mart two_keys 0 (day 1) ≡ bare_row (codes "A1") ∷ bare_row (codes "A2") ∷ []
  -- none a second before the first window, and the last rows for years after it
  pub second_before : feed_mart once 0 (day 1 - 1) ≡ []
  pub at_load_date : feed_mart once 0 (day 1) ≡ named_row (codes "1") (codes "abc") ∷ []
  pub years_later : feed_mart once 0 year_2030 ≡ named_row (codes "1") (codes "abc") ∷ []
  -- a header alone empties the feed from its load date on
  pub still_there : feed_mart emptied 0 (day 1) ≡ named_row (codes "1") (codes "x") ∷ named_row (codes "2") (codes "y") ∷ []
  pub header_alone : feed_mart emptied 0 (day 2) ≡ []
  -- a key comes, goes and comes again
  pub not_yet : feed_mart coming_and_going 0 leap_day ≡ []
  pub comes : feed_mart coming_and_going 0 (day 1) ≡ named_row (codes "1") (codes "abc") ∷ []
  pub goes : feed_mart coming_and_going 0 (day 2) ≡ []
  pub comes_again : feed_mart coming_and_going 0 (day 3) ≡ named_row (codes "1") (codes "abc") ∷ []
  -- a feed that is absent keeps its content, and the other one has its own
  pub absent_kept : feed_mart one_absent 0 (day 2) ≡ named_row (codes "1") (codes "abc") ∷ []
  pub present_changed : feed_mart one_absent 1 (day 2) ≡ named_row (codes "1") (codes "tin") ∷ []
  -- all rows of a key
  pub several_rows : feed_mart phones 0 (day 2) ≡
      row (codes "1" ∷ []) (codes "fax" ∷ []) (codes "12" ∷ [])
      ∷ row (codes "1" ∷ []) (codes "home" ∷ []) (codes "10" ∷ [])
      ∷ row (codes "1" ∷ []) (codes "work" ∷ []) (codes "21" ∷ [])
      ∷ []
  -- a row with a missing reference
  pub missing_reference : feed_mart orders 0 (day 1) ≡ pair_row [] (codes "O2") ∷ pair_row (codes "1") (codes "O1") ∷ []
  -- the lists that a feed's windows deliver
  pub delivered : delivered_refs 0 coming_and_going ≡ (key (codes "1") ∷ []) ∷ (key (codes "1") ∷ []) ∷ []
  pub delivered_of_feed : delivered_refs 1 tiers_later ≡ (key (codes "2") ∷ []) ∷ (key (codes "3") ∷ []) ∷ (key (codes "2") ∷ []) ∷ []
