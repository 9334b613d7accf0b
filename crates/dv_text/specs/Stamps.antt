-- Stamps: the text `YYYY-MM-DDTHH:MM:SS` of a date and a time of day, and its seconds since 1900-01-01T00:00:00.
use Rattle.std.specs.Prelude.{ℕ, zero, suc, [], ◌∷◌, ◌/◌, ◌%◌, ◌+◌, ◌-◌, ◌*◌, ◌==◌, ◌&&◌, nat_le, nat_lt, ◌||◌, Bool, List, length, slice_index, Option, Some, None, if◌then◌else◌, ℤ, pos, ◌-ℤ◌, unsigned_abs}
use Rattle.std.specs.Char.{is_ascii_digit}
use Rattle.jiff_core.specs.Calendar.{days_from_civil, days_in_month, days_in_year}

-- the number of the two digits at this place
abbrev pub two_at : List ℕ → ℕ → ℕ
two_at t i = (slice_index t i - 48) * 10 + (slice_index t (i + 1) - 48)

abbrev pub year_in : List ℕ → ℕ
year_in t = two_at t 0 * 100 + two_at t 2

-- two digits stand at this place
abbrev pub are_two_at : List ℕ → ℕ → Bool
are_two_at t i = is_ascii_digit (slice_index t i) && is_ascii_digit (slice_index t (i + 1))

-- the marks stand between the numbers
unfoldable pub has_marks : List ℕ → Bool
has_marks t = (slice_index t 4 == 45) && (slice_index t 7 == 45) && (slice_index t 10 == 84) && (slice_index t 13 == 58) && (slice_index t 16 == 58)

-- the numbers are digits
unfoldable pub has_digits : List ℕ → Bool
has_digits t = are_two_at t 0 && are_two_at t 2 && are_two_at t 5 && are_two_at t 8 && are_two_at t 11 && are_two_at t 14 && are_two_at t 17

-- the text is `dddd-dd-ddTdd:dd:dd`, with a digit for each d
unfoldable pub has_form : List ℕ → Bool
has_form t = (length t == 19) && has_marks t && has_digits t

-- the calendar has this date, and the clock this time of day, in a year from 1900 to the last
abbrev pub is_there : ℕ → ℕ → ℕ → ℕ → ℕ → ℕ → ℕ → Bool
is_there last year month day hour minute second =
    nat_le 1900 year && nat_le year last && nat_le 1 month && nat_le month 12 && nat_le 1 day && nat_le day (days_in_month (pos year) month)
    && nat_le hour 23 && nat_le minute 59 && nat_le second 59

-- the days from 1900-01-01 to a date
abbrev pub days_since_1900 : ℤ → ℕ → ℕ → ℕ
days_since_1900 year month day = unsigned_abs (days_from_civil year month day -ℤ days_from_civil (pos 1900) 1 1)

-- the seconds from 1900-01-01T00:00:00, with 86,400 a day
abbrev pub seconds_of : ℕ → ℕ → ℕ → ℕ → ℕ → ℕ → ℕ
seconds_of year month day hour minute second = days_since_1900 (pos year) month day * 86400 + (hour * 3600 + minute * 60 + second)

-- the seconds of a date and a time of day, where they are there
unfoldable pub seconds_if : ℕ → ℕ → ℕ → ℕ → ℕ → ℕ → ℕ → Option ℕ
seconds_if last year month day hour minute second =
    if is_there last year month day hour minute second then Some (seconds_of year month day hour minute second) else None

-- the seconds that a text reads as, in a year up to the last
unfoldable pub stamp_in : ℕ → List ℕ → Option ℕ
stamp_in last t = if has_form t then seconds_if last (year_in t) (two_at t 5) (two_at t 8) (two_at t 11) (two_at t 14) (two_at t 17) else None

-- the stamp that a text says: of a year up to 9998
abbrev pub stamp_of : List ℕ → Option ℕ
stamp_of t = stamp_in 9998 t

-- the last second of the year 9999, which stands for an end that is open
abbrev pub open_end : ℕ
open_end = 255_611_289_599

-- the first second of the year 9999: the load dates and snapshot dates are before it
abbrev pub end_of_stamps : ℕ
end_of_stamps = 255_579_753_600

-- the number of a stamp of a year up to 9998, or of the open end
abbrev pub is_stamp_number : ℕ → Bool
is_stamp_number n = nat_lt n end_of_stamps || (n == open_end)

-- the year that a day falls in, counted off from a year, and the days before it in that year
unfoldable pub year_from : ℕ → ℕ → ℕ → ℕ × ℕ
year_from zero y n = (y, n)
year_from (suc k) y n = if nat_lt n (days_in_year (pos y)) then (y, n) else year_from k (y + 1) (n - days_in_year (pos y))

-- the month that a day of a year falls in, counted off from a month, and the days before it in that month
unfoldable pub month_from : ℕ → ℕ → ℕ → ℕ → ℕ × ℕ
month_from zero y m n = (m, n)
month_from (suc k) y m n = if nat_lt n (days_in_month (pos y) m) then (m, n) else month_from k y (m + 1) (n - days_in_month (pos y) m)

-- the text of a date and a time of day
abbrev pub text_of : ℕ → ℕ → ℕ → ℕ → ℕ → ℕ → List ℕ
text_of year month day hour minute second =
    (48 + year / 100 / 10) ∷ (48 + year / 100 % 10) ∷ (48 + year % 100 / 10) ∷ (48 + year % 100 % 10) ∷ 45 ∷ (48 + month / 10) ∷ (48 + month % 10) ∷ 45 ∷ (48 + day / 10) ∷ (48 + day % 10)
    ∷ 84 ∷ (48 + hour / 10) ∷ (48 + hour % 10) ∷ 58 ∷ (48 + minute / 10) ∷ (48 + minute % 10) ∷ 58 ∷ (48 + second / 10) ∷ (48 + second % 10) ∷ []

-- the text of a stamp
unfoldable pub stamp_text : ℕ → List ℕ
stamp_text n =
    let year = year_from 8099 1900 (n / 86400) in
    let month = month_from 11 year.0 1 year.1 in
    text_of year.0 month.0 (month.1 + 1) (n % 86400 / 3600) (n % 86400 / 60 % 60) (n % 60)
