use Rattle.dv_text.proofs.Vocabulary.{arith, back_small, days_since_1900, false≢true, of_z, one_part, pos, refl, signed_arith, time_seconds, to_z, unsigned_abs, unsigned_abs-parts, w64, ℕ, ℤ, ◌*◌, ◌+ℤ◌, ◌+◌, ◌<◌, ◌^◌, ◌≡◌}
use Rattle.dv_text.proofs.Days.{day_range, day_since, has_instant, second_since}
use Rattle.dv_text.proofs.calendar.seconds_at.Goals as goal

-- the instant's second, from 1900 on
since : (c : goal.After-as_second) → c.as_second.result +ℤ pos 2_208_988_800 ≡ pos (days_since_1900 c.args.date.year c.args.date.month c.args.date.day * 86_400 + time_seconds c.args.time)
since c =
    let of = c.from_parts.ensures in
    let all = second_since c.from_parts.result c.in-Ok.instant.nanosecond (rw of.date c.requires.year.0) (rw of.date c.requires.year.1) (rw of.time c.requires.whole) c.in-Ok.ensures.value in
    rw (← of.date, ← of.time, c.as_second.ensures) all

-- the sum that the code computes in 64 bits
shifted : (r : ℤ) (n : ℕ) → r +ℤ pos 2_208_988_800 ≡ pos n → n < 2 ^ 62 → to_z w64 (of_z w64 (to_z w64 (of_z w64 r) +ℤ pos 2_208_988_800)) ≡ pos n
shifted r n e small =
    let near : unsigned_abs r < 2 ^ 63 = omega (arith, signed_arith, e, unsigned_abs-parts r, one_part r) in
    let inner = back_small w64 r near in
    rw (inner, e) (back_small w64 (pos n) (omega arith))

small : (c : goal.After-as_second) → days_since_1900 c.args.date.year c.args.date.month c.args.date.day * 86_400 + time_seconds c.args.time < 255_579_753_600
small c =
    let day = day_since c.args.date c.requires.year.0 c.requires.year.1 in
    let range = day_range c.args.date c.requires.year.0 c.requires.year.1 in
    let days : days_since_1900 c.args.date.year c.args.date.month c.args.date.day < 2_958_099 = omega (arith, signed_arith, day, range.1) in
    omega (arith, days, c.args.time.hour_in, c.args.time.minute_in, c.args.time.second_in)

value : (c : goal.After-as_second) → to_z w64 (of_z w64 (to_z w64 (of_z w64 c.as_second.result) +ℤ pos 2_208_988_800)) ≡ pos (days_since_1900 c.args.date.year c.args.date.month c.args.date.day * 86_400 + time_seconds c.args.time)
value c = shifted c.as_second.result _ (since c) (omega (arith, small c))

pub overflow_cast-result : goal.overflow_cast-result
overflow_cast-result c = rw (value c) (tt, omega (arith, small c))

pub unreachable-requires : goal.unreachable-requires
unreachable-requires c =
    let of = c.from_parts.ensures in
    let fits = has_instant c.from_parts.result (rw of.date c.requires.year.0) (rw of.date c.requires.year.1) (rw of.time c.requires.whole) in
    false≢true (c.in-Err.ensures.succeeds.1 fits)

pub returns-clause-value : goal.returns-clause-value
returns-clause-value c = rw (value c) refl

pub returns-clause-small : goal.returns-clause-small
returns-clause-small c = rw (value c) (small c)
