-- The days of the years from 1900 to 9998.
use Rattle.dv_text.proofs.Vocabulary.{Date, DateTime, IsCivilDate, IsTimestampNanos, arith, by_lt_z, civil, civil_nanos, civil_nanos-civil_seconds, civil_seconds, day_count, day_count-day_of_year, day_count-lt_year, days_from_civil-day_count, days_of_months, days_of_years, days_since_1900}
use Rattle.dv_text.proofs.Vocabulary.{epoch_day, int_div, neg_ℤ, one_part, pos, refl, rules, signed_arith, time_seconds, unsigned_abs-parts, ℕ, ℤ, ◌*ℤ◌, ◌*◌, ◌+ℤ◌, ◌+◌, ◌-ℤ◌, ◌<ℤ◌, ◌<◌, ◌≡◌, ◌≤ℤ◌}

day_count-1899 : day_count (pos 1899) 12 31 ≡ 4_346_385
unfolding day_count days_of_years days_of_months
day_count-1899 = refl

pub day_count-1900 : day_count (pos 1900) 1 1 ≡ 4_346_386
unfolding day_count days_of_years days_of_months
day_count-1900 = refl

day_count-9999 : day_count (pos 9999) 1 1 ≡ 7_304_485
unfolding day_count days_of_years days_of_months
day_count-9999 = refl

last_1899 : IsCivilDate (pos 1899) 12 31
last_1899 = ((omega (arith, signed_arith), omega (arith, signed_arith)), (omega arith, omega arith), (omega arith, omega arith))

first_9999 : IsCivilDate (pos 9999) 1 1
first_9999 = ((omega (arith, signed_arith), omega (arith, signed_arith)), (omega arith, omega arith), (omega arith, omega arith))

-- a date of these years, by its day number
pub day_range : (d : Date) → pos 1900 ≤ℤ d.year → d.year ≤ℤ pos 9998 → (neg_ℤ (pos 25_567) ≤ℤ epoch_day d) × (epoch_day d <ℤ pos 2_932_532)
day_range d low high =
    let before = day_count-lt_year (pos 1899) 12 31 d.year d.month d.day last_1899 d.day_in.0 (omega (arith, signed_arith)) in
    let after = day_count-lt_year d.year d.month d.day (pos 9999) 1 1 (civil d) (omega arith) (omega (arith, signed_arith)) in
    (omega (arith, signed_arith, days_from_civil-day_count, before, day_count-1899), omega (arith, signed_arith, days_from_civil-day_count, after, day_count-9999))

-- the day number of a date of these years is the days since 1900, less those up to 1970
pub day_since : (d : Date) → pos 1900 ≤ℤ d.year → d.year ≤ℤ pos 9998 → pos (days_since_1900 d.year d.month d.day) ≡ epoch_day d +ℤ pos 25_567
day_since d low high = search (rules, day_range, signed_arith, days_from_civil-day_count, day_count-1900, unsigned_abs-parts, one_part, day_range d low high)

-- the whole seconds of so many nanoseconds
whole_second : (n s : ℤ) → n ≡ s *ℤ pos 1_000_000_000 → int_div n (pos 1_000_000_000) ≡ s
whole_second n s e = omega (arith, signed_arith)

-- the nanoseconds of a datetime with no fraction, by its day number and its time of day
pub instant_nanos : (dt : DateTime) (n : ℤ) → dt.time.subsec_nanosecond ≡ 0 → n ≡ civil_nanos dt -ℤ pos 0 *ℤ pos 1_000_000_000
    → n ≡ (epoch_day dt.date *ℤ pos 86_400 +ℤ pos (time_seconds dt.time)) *ℤ pos 1_000_000_000
unfolding civil_seconds
instant_nanos dt n whole e = omega (arith, signed_arith, civil_nanos-civil_seconds dt, e, whole)

-- an instant's second, from 1900 on
pub second_since : (dt : DateTime) (n : ℤ) → pos 1900 ≤ℤ dt.date.year → dt.date.year ≤ℤ pos 9998 → dt.time.subsec_nanosecond ≡ 0 → n ≡ civil_nanos dt -ℤ pos 0 *ℤ pos 1_000_000_000
    → int_div n (pos 1_000_000_000) +ℤ pos 2_208_988_800 ≡ pos (days_since_1900 dt.date.year dt.date.month dt.date.day * 86_400 + time_seconds dt.time)
second_since dt n low high whole e = search (rules, whole_second, instant_nanos, day_since, signed_arith, instant_nanos dt n whole e, day_since dt.date low high)

-- such a datetime is one that an instant has
pub has_instant : (dt : DateTime) → pos 1900 ≤ℤ dt.date.year → dt.date.year ≤ℤ pos 9998 → dt.time.subsec_nanosecond ≡ 0 → IsTimestampNanos (civil_nanos dt -ℤ pos 0 *ℤ pos 1_000_000_000)
has_instant dt low high whole =
    let nanos = instant_nanos dt (civil_nanos dt -ℤ pos 0 *ℤ pos 1_000_000_000) whole refl in
    let range = day_range dt.date low high in
    (omega (arith, signed_arith, nanos, range.0), omega (arith, signed_arith, nanos, range.1))

-- the year of a date, by its day number
pub year_range : (d : Date) → neg_ℤ (pos 25_567) ≤ℤ epoch_day d → epoch_day d <ℤ pos 2_932_532 → (pos 1900 ≤ℤ d.year) × (d.year ≤ℤ pos 9998)
year_range d low high = search (rules, by_lt_z, signed_arith, days_from_civil-day_count, day_count-lt_year, civil, day_count-1900, first_9999, day_count-9999, day_count-day_of_year)

-- the parts of a datetime that so many seconds after 1900 give
pub record Placed (dt : DateTime) (n : ℕ) : Type 0 where
  pub low : pos 1900 ≤ℤ dt.date.year
  pub high : dt.date.year ≤ℤ pos 9998
  pub whole : dt.time.subsec_nanosecond ≡ 0
  pub value : n ≡ days_since_1900 dt.date.year dt.date.month dt.date.day * 86_400 + time_seconds dt.time

pub placed : (dt : DateTime) (n : ℕ) (z : ℤ) → n < 255_579_753_600 → z +ℤ pos 2_208_988_800 ≡ pos n → civil_nanos dt ≡ z *ℤ pos 1_000_000_000 +ℤ pos 0 *ℤ pos 1_000_000_000 → Placed dt n
unfolding civil_seconds
placed dt n z small from nanos =
    let split = civil_nanos-civil_seconds dt in
    let part = dt.time.subsec_in in
    let clock : time_seconds dt.time < 86_400 = omega (arith, dt.time.hour_in, dt.time.minute_in, dt.time.second_in) in
    let whole : dt.time.subsec_nanosecond ≡ 0 = omega (arith, signed_arith, split, nanos, part) in
    let seconds : epoch_day dt.date *ℤ pos 86_400 +ℤ pos (time_seconds dt.time) ≡ z = omega (arith, signed_arith, split, nanos, whole) in
    let low : neg_ℤ (pos 25_567) ≤ℤ epoch_day dt.date = omega (arith, signed_arith, seconds, from, clock) in
    let high : epoch_day dt.date <ℤ pos 2_932_532 = omega (arith, signed_arith, seconds, from, small) in
    let year = year_range dt.date low high in
    let day = day_since dt.date year.0 year.1 in
    record { low = year.0; high = year.1; whole = whole; value = omega (arith, signed_arith, seconds, from, day) }
