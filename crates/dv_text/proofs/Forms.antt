-- What the form of a stamp says of its parts.
use Rattle.dv_text.proofs.Vocabulary.{List, Some, and_parts, are_two_at, arith, days_in_month, days_in_month_bounds, has_digits, has_form, has_marks, is_ascii_digit, is_there, length, nat_tests, pos, refl, rules, seconds_if, seconds_of, stamp_in, text_of, true, ℕ, ◌%◌, ◌*◌, ◌+◌, ◌-◌, ◌/◌, ◌<◌}
use Rattle.dv_text.proofs.Vocabulary.{◌≡◌, ◌≤◌}

pub record Parts (t : List ℕ) : Type 0 where
  pub long : length t ≡ 19
  pub century : are_two_at t 0 ≡ true
  pub year : are_two_at t 2 ≡ true
  pub month : are_two_at t 5 ≡ true
  pub day : are_two_at t 8 ≡ true
  pub hour : are_two_at t 11 ≡ true
  pub minute : are_two_at t 14 ≡ true
  pub second : are_two_at t 17 ≡ true

pub form_parts : (t : List ℕ) → has_form t ≡ true → Parts t
unfolding has_form has_digits
form_parts t e = search (rules, and_parts)

-- a digit
digit : (k : ℕ) → k < 10 → is_ascii_digit (48 + k) ≡ true
digit k h = grind (arith, nat_tests)

-- a number below 100, from its digits
pair : (n : ℕ) → (48 + n / 10 - 48) * 10 + (48 + n % 10 - 48) ≡ n
pair n = omega arith

-- the digits of a number below 100
pairs : (n : ℕ) → n < 100 → (is_ascii_digit (48 + n / 10) ≡ true) × (is_ascii_digit (48 + n % 10) ≡ true)
pairs n h = (digit (n / 10) (omega arith), digit (n % 10) (omega arith))

-- the parts of a stamp, one by one
pub there-parts : (year month day hour minute second : ℕ) → is_there 9998 year month day hour minute second ≡ true
    → (1900 ≤ year) × (year ≤ 9999) × (1 ≤ month) × (month ≤ 12) × (1 ≤ day) × (day ≤ days_in_month (pos year) month) × (hour ≤ 23) × (minute ≤ 59) × (second ≤ 59)
there-parts year month day hour minute second e = search (rules, and_parts)

-- the text of a date and a time of day reads as its seconds
pub shown : (year month day hour minute second : ℕ) → is_there 9998 year month day hour minute second ≡ true
    → stamp_in 9998 (text_of year month day hour minute second) ≡ Some (seconds_of year month day hour minute second)
unfolding stamp_in has_form has_marks has_digits seconds_if
shown year month day hour minute second there =
    let (low, high, m1, m12, dd1, dm, h23, mi59, s59) = there-parts year month day hour minute second there in
    let days = days_in_month_bounds (pos year) month in
    let (c1, c2) = pairs (year / 100) (omega arith) in
    let (y1, y2) = pairs (year % 100) (omega arith) in
    let (m1, m2) = pairs month (omega arith) in
    let (d1, d2) = pairs day (omega arith) in
    let (h1, h2) = pairs hour (omega arith) in
    let (n1, n2) = pairs minute (omega arith) in
    let (s1, s2) = pairs second (omega arith) in
    let whole : year / 100 * 100 + year % 100 ≡ year = omega arith in
    rw (c1, c2, y1, y2, m1, m2, d1, d2, h1, h2, n1, n2, s1, s2, pair (year / 100), pair (year % 100), pair month, pair day, pair hour, pair minute, pair second, whole, there) refl
