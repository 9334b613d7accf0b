-- The text of a number of seconds is that of its date and its time of day.
use Rattle.dv_text.proofs.Vocabulary.{IsCivilDate, ap, arith, cases_order, codes, day_count, day_count-day_of_year, day_count-later_year, day_count-next_year, day_of_year, day_of_year_bound, days_from_civil, days_from_civil-day_count, days_in_month, days_in_year, days_of_months}
use Rattle.dv_text.proofs.Vocabulary.{days_of_months-zero, days_of_months_mono, days_of_months_more, days_since_1900, inl, inr, le-ltb, lt-ltb, month_from, one_part, open_end, pos, refl, rules, seconds_of, signed_arith, stamp_text, suc, text_of, unsigned_abs-parts, year_from, zero, ℕ, ◌%◌, ◌*◌}
use Rattle.dv_text.proofs.Vocabulary.{◌+◌, ◌-ℤ◌, ◌-◌, ◌/◌, ◌<◌, ◌≡◌, ◌≤◌}
use Rattle.dv_text.proofs.Days.{day_count-1900}

-- the year of a day
pub year_from-is : (k y0 y r n : ℕ) → y0 ≤ y → y ≤ y0 + k → r < days_in_year (pos y) → n + day_count (pos y0) 1 1 ≡ day_count (pos y) 1 1 + r → year_from k y0 n ≡ (y, r)
unfolding year_from
year_from-is zero y0 y r n low high small e = search (rules)
year_from-is (suc k) y0 y r n low high small e =
    elim (cases_order y0 y) [
      | inl same ↦
          let count : day_count (pos y0) 1 1 ≡ day_count (pos y) 1 1 = ap (λ x. day_count (pos x) 1 1) same in
          let days : n ≡ r = omega (arith, e, count) in
          rw (same, days, lt-ltb r (days_in_year (pos y)) small) refl
      | inr (inl lt) ↦
          let next : day_count (pos (y0 + 1)) 1 1 ≡ day_count (pos y0) 1 1 + days_in_year (pos y0) = day_count-next_year (pos y0) (pos (y0 + 1)) (omega (arith, signed_arith)) (omega (arith, signed_arith)) in
          let later = day_count-later_year (pos y0) (pos y) (omega (arith, signed_arith)) (omega (arith, signed_arith, lt)) in
          rw (le-ltb n (days_in_year (pos y0)) (omega (arith, e, later)))
          (year_from-is k (y0 + 1) y r (n - days_in_year (pos y0)) (omega (arith, lt)) (omega (arith, high)) small (omega (arith, e, next, later)))
      | inr (inr gt) ↦ absurd (omega (arith, low, gt))
    ]

-- the month of a day of a year
pub month_from-is : (k y m0 m r n : ℕ) → 1 ≤ m0 → m0 ≤ m → m ≤ m0 + k → r < days_in_month (pos y) m → n + days_of_months (pos y) (m0 - 1) ≡ days_of_months (pos y) (m - 1) + r → month_from k y m0 n ≡ (m, r)
unfolding month_from
month_from-is zero y m0 m r n first low high small e = search (rules)
month_from-is (suc k) y m0 m r n first low high small e =
    elim (cases_order m0 m) [
      | inl same ↦
          let count : days_of_months (pos y) (m0 - 1) ≡ days_of_months (pos y) (m - 1) = ap (λ x. days_of_months (pos y) (x - 1)) same in
          let days : n ≡ r = omega (arith, e, count) in
          rw (same, days, lt-ltb r (days_in_month (pos y) m) small) refl
      | inr (inl lt) ↦
          let next = days_of_months_more (pos y) m0 first in
          let later = days_of_months_mono (pos y) m0 (m - 1) (omega (arith, lt)) in
          let back : m0 + 1 - 1 ≡ m0 = omega arith in
          rw (le-ltb n (days_in_month (pos y) m0) (omega (arith, e, next, later)))
          (month_from-is k y (m0 + 1) m r (n - days_in_month (pos y) m0) (omega arith) (omega (arith, lt)) (omega (arith, high)) small (rw back (omega (arith, e, next, later))))
      | inr (inr gt) ↦ absurd (omega (arith, low, gt))
    ]

-- the days since 1900, by the days of the years before and the day of the year
days_since-count : (y m d : ℕ) → 1900 ≤ y → 1 ≤ d → days_since_1900 (pos y) m d + day_count (pos 1900) 1 1 ≡ day_count (pos y) 1 1 + (day_of_year (pos y) m d - 1)
days_since-count y m d low first =
    let z = days_from_civil (pos y) m d -ℤ days_from_civil (pos 1900) 1 1 in
    let in_year = day_count-day_of_year (pos y) m d first in
    let later : day_count (pos 1900) 1 1 ≤ day_count (pos y) 1 1 = elim (cases_order 1900 y) [
      | inl same ↦ let count : day_count (pos 1900) 1 1 ≡ day_count (pos y) 1 1 = ap (λ x. day_count (pos x) 1 1) same in omega (arith, count)
      | inr (inl lt) ↦ omega (arith, day_count-later_year (pos 1900) (pos y) (omega (arith, signed_arith)) (omega (arith, signed_arith, lt)))
      | inr (inr gt) ↦ absurd (omega (arith, low, gt))
    ] in
    omega (arith, signed_arith, days_from_civil-day_count (pos y) m d, days_from_civil-day_count (pos 1900) 1 1, unsigned_abs-parts z, one_part z, in_year, later, day_count-1900, first)

pub stamp_text-is : (y m d h mi s : ℕ) → 1900 ≤ y → y ≤ 9999 → 1 ≤ m → m ≤ 12 → 1 ≤ d → d ≤ days_in_month (pos y) m → h ≤ 23 → mi ≤ 59 → s ≤ 59
    → stamp_text (seconds_of y m d h mi s) ≡ text_of y m d h mi s
unfolding stamp_text
stamp_text-is y m d h mi s low high m1 m12 d1 dm h23 mi59 s59 =
    let days = days_since_1900 (pos y) m d in
    let secs = h * 3600 + mi * 60 + s in
    let n = days * 86400 + secs in
    let day : n / 86400 ≡ days = omega (arith, h23, mi59, s59) in
    let clock : n % 86400 ≡ secs = omega (arith, h23, mi59, s59) in
    let hours : secs / 3600 ≡ h = omega (arith, mi59, s59) in
    let minutes : secs / 60 % 60 ≡ mi = omega (arith, mi59, s59) in
    let seconds : n % 60 ≡ s = omega (arith, s59) in
    let civil : IsCivilDate (pos y) m d = ((omega (arith, signed_arith), omega (arith, signed_arith, high)), (m1, m12), (d1, dm)) in
    let bound = day_of_year_bound (pos y) m d civil in
    let year = year_from-is 8099 1900 y (day_of_year (pos y) m d - 1) days low (omega (arith, high)) (omega (arith, bound, d1)) (days_since-count y m d low d1) in
    let zero-months = days_of_months-zero (pos y) in
    let month = month_from-is 11 y 1 m (d - 1) (day_of_year (pos y) m d - 1) (omega arith) m1 (omega (arith, m12)) (omega (arith, d1, dm)) (omega (arith, zero-months, d1)) in
    let last : d - 1 + 1 ≡ d = omega (arith, d1) in
    rw (day, year, month, last, clock, hours, minutes, seconds) refl

-- the end that is open
pub stamp_text-open : stamp_text open_end ≡ codes "9999-12-31T23:59:59"
unfolding stamp_text year_from month_from
stamp_text-open = refl
