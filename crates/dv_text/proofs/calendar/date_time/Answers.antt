use Rattle.dv_text.proofs.Vocabulary.{arith, back_small, ints, of_z, one_part, pos, signed_arith, to_z, unsigned_abs, unsigned_abs-parts, w64, ℕ, ◌-ℤ◌, ◌<◌, ◌^◌, ◌≡◌}
use Rattle.dv_text.proofs.Days.{Placed, placed}
use Rattle.dv_text.proofs.calendar.date_time.Goals as goal

-- the difference that the code computes in 64 bits
shifted : (n : ℕ) → n < 2 ^ 62 → to_z w64 (of_z w64 (to_z w64 n -ℤ pos 2_208_988_800)) ≡ pos n -ℤ pos 2_208_988_800
shifted n small =
    let r = pos n -ℤ pos 2_208_988_800 in
    let inner : to_z w64 n ≡ pos n = omega (arith, ints) in
    let near : unsigned_abs r < 2 ^ 63 = omega (arith, signed_arith, unsigned_abs-parts r, one_part r) in
    rw inner (back_small w64 r near)

parts : (c : goal.After-to_datetime) → Placed c.to_datetime.result c.args.seconds
parts c =
    let v = rw (shifted c.args.seconds (omega (arith, c.requires))) at c.in-Ok.ensures.value in
    placed c.to_datetime.result c.args.seconds (pos c.args.seconds -ℤ pos 2_208_988_800) c.requires (omega (arith, signed_arith)) (rw (← v) c.to_datetime.ensures)

pub returns-clause-year : goal.returns-clause-year
returns-clause-year c = ((parts c).low, (parts c).high)

pub returns-clause-whole : goal.returns-clause-whole
returns-clause-whole c = (parts c).whole

pub returns-clause-value : goal.returns-clause-value
returns-clause-value c = (parts c).value
