-- The text of a stamp is UTF-8.
use Rattle.dv_desk.proofs.Vocabulary.{Bool, IsUtf8-are_ascii, List, None, Option, Some, and_parts, are_ascii, arith, codes, false, form_parts, has_form, if◌then◌else◌, is_ascii_digit, nat_lt, open_end, refl, stamp_in, stamp_of, stamp_text, text_of, true, utf8_lossy, utf8_lossy-IsUtf8, ℕ, ◌%◌}
use Rattle.dv_desk.proofs.Vocabulary.{◌&&◌, ◌+◌, ◌/◌, ◌==◌, ◌∙◌, ◌≡◌, ◌≢◌}

taken : (b : Bool) (found : Option ℕ) (n : ℕ) → (if b then found else None) ≡ Some n → b ≡ true
taken true found n is = refl
taken false found n is = absurd cc

-- what says a stamp has the form of one
formed : (text : List ℕ) (n : ℕ) → stamp_of text ≡ Some n → has_form text ≡ true
unfolding stamp_in
formed text n is = taken (has_form text) _ n is

digit_ascii : (b : ℕ) → is_ascii_digit b ≡ true → nat_lt b 128 ≡ true
digit_ascii b is = grind (arith, is)

pair_ascii : (a b : ℕ) → (is_ascii_digit a && is_ascii_digit b) ≡ true → (nat_lt a 128 ≡ true) × (nat_lt b 128 ≡ true)
pair_ascii a b is = let parts = and_parts (is_ascii_digit a) (is_ascii_digit b) is in (digit_ascii a parts.0, digit_ascii b parts.1)

text_ascii : (year month day hour minute second : ℕ) → has_form (text_of year month day hour minute second) ≡ true → are_ascii (text_of year month day hour minute second) ≡ true
text_ascii year month day hour minute second is =
    let parts = form_parts (text_of year month day hour minute second) is in
    let century = pair_ascii (48 + year / 100 / 10) (48 + year / 100 % 10) parts.century in
    let years = pair_ascii (48 + year % 100 / 10) (48 + year % 100 % 10) parts.year in
    let months = pair_ascii (48 + month / 10) (48 + month % 10) parts.month in
    let days = pair_ascii (48 + day / 10) (48 + day % 10) parts.day in
    let hours = pair_ascii (48 + hour / 10) (48 + hour % 10) parts.hour in
    let minutes = pair_ascii (48 + minute / 10) (48 + minute % 10) parts.minute in
    let seconds = pair_ascii (48 + second / 10) (48 + second % 10) parts.second in
    rw (century.0, century.1, years.0, years.1, months.0, months.1, days.0, days.1, hours.0, hours.1, minutes.0, minutes.1, seconds.0, seconds.1) refl

stamp_ascii : (n : ℕ) → stamp_of (stamp_text n) ≡ Some n → are_ascii (stamp_text n) ≡ true
unfolding stamp_text
stamp_ascii n is = text_ascii _ _ _ _ _ _ (formed (stamp_text n) n is)

open_ascii : (text : List ℕ) → text ≡ codes "9999-12-31T23:59:59" → are_ascii text ≡ true
open_ascii text is = rw is refl

-- a stamp's text reads as it, or is that of the open end
pub stamp_utf8 : (text : List ℕ) (n : ℕ) → text ≡ stamp_text n → (n ≢ open_end → stamp_of text ≡ Some n) → (n ≡ open_end → text ≡ codes "9999-12-31T23:59:59") → utf8_lossy text ≡ stamp_text n
stamp_utf8 text n shown reads last =
    utf8_lossy-IsUtf8 text (IsUtf8-are_ascii text (by (n == open_end) refl)) ∙ shown
  where
    by : (b : Bool) → (n == open_end) ≡ b → are_ascii text ≡ true
    by true is = open_ascii text (last (grind (arith, is)))
    by false is = rw shown (stamp_ascii n (rw shown at (reads (grind (arith, is)))))
