-- Digits, as they are read.
use Rattle.dv_http.proofs.Vocabulary.{AllDigits, BodyTooLong, Err, IsAscii-from_digits, IsInRange, IsNumeral, IsUtf8, IsUtf8-from_ascii, List, [], and_parts, ap, arith, digit_value_digit, digits_value, false, is_ascii_digit, is_length, length, length_told, list_all, nat_le, nat_lt, refl, true}
use Rattle.dv_http.proofs.Vocabulary.{without_leading_plus, ℕ, ◌<◌, ◌==◌, ◌^◌, ◌∙◌, ◌∷◌, ◌≡◌, ◌≤◌}

digit_within : (b : ℕ) → is_ascii_digit b ≡ true → IsInRange 48 57 b
digit_within b is = grind (arith, is)

pub all_digits : (bs : List ℕ) → list_all is_ascii_digit bs ≡ true → AllDigits 10 bs
all_digits [] all = tt
all_digits (b ∷ bs) all =
    let parts = and_parts (is_ascii_digit b) (list_all is_ascii_digit bs) all in
    let within = digit_within b parts.0 in
    (omega (arith, digit_value_digit b within, within.1), all_digits bs parts.1)

pub digits_text : (bs : List ℕ) → list_all is_ascii_digit bs ≡ true → IsUtf8 bs
digits_text bs all = IsUtf8-from_ascii bs (IsAscii-from_digits bs (all_digits bs all))

pub no_plus : (bs : List ℕ) → list_all is_ascii_digit bs ≡ true → without_leading_plus bs ≡ bs
no_plus [] all = refl
no_plus (b ∷ bs) all =
    let parts = and_parts (is_ascii_digit b) (list_all is_ascii_digit bs) all in
    let within = digit_within b parts.0 in
    let other : (b == 43) ≡ false = grind (arith, within) in
    rw other refl

-- a number that is past 64 bits is longer than a body may be
pub past_all : (value text : List ℕ) → text ≡ value → list_all is_ascii_digit value ≡ true → (length value ≡ 0 → ⊥) → length value ≤ 19 → (IsNumeral 10 (without_leading_plus text) × (digits_value 10 (without_leading_plus text) < 2 ^ 64) → ⊥) → Err BodyTooLong ≡ length_told value
past_all value text same all some short not_read =
    let number : without_leading_plus text ≡ value = ap without_leading_plus same ∙ no_plus value all in
    let less : digits_value 10 value < 2 ^ 64 → ⊥ = λ under. not_read (rw number ((omega (arith, some), all_digits value all), under)) in
    let over : nat_lt 68157440 (digits_value 10 value) ≡ true = grind (arith, less) in
    let filled : nat_lt 0 (length value) ≡ true = grind (arith, some) in
    let fits : nat_le (length value) 19 ≡ true = grind (arith, short) in
    let is : is_length value ≡ true = rw filled (rw fits all) in
    rw is (rw over refl)
