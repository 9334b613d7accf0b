-- The number that a word says, as it is read.
use Rattle.dv_given.proofs.Vocabulary.{AllDigits, IsAscii-from_digits, IsDigitsTest, IsNumeral, IsUtf8, IsUtf8-from_ascii, List, None, [], and_parts, ap, arith, digit_at, digit_value_digit, digits_value, digits_value-take-le, false, is_ascii_digit, is_number, length, list_all, nat_le, not}
use Rattle.dv_given.proofs.Vocabulary.{number_in, numerals_by_value, refl, true, without_leading_plus, without_leading_plus_none, ℕ, ◌<◌, ◌==◌, ◌^◌, ◌∙◌, ◌∷◌, ◌≡◌, ◌≤◌}

-- what all bytes of a number pass is a test of digits
told : IsDigitsTest (λ word. list_all is_ascii_digit word ≡ true)
told = record {
  empty = refl;
  parts = λ b word all. let parts = and_parts (is_ascii_digit b) (list_all is_ascii_digit word) all in (grind (arith, parts.0), parts.1);
  more = λ b word within all. let digit : is_ascii_digit b ≡ true = grind (arith, within) in rw digit all;
}

all_digits : (word : List ℕ) → list_all is_ascii_digit word ≡ true → AllDigits 10 word
all_digits = (numerals_by_value (λ word. list_all is_ascii_digit word ≡ true) told).to

are_digits : (word : List ℕ) → is_number word ≡ true → list_all is_ascii_digit word ≡ true
are_digits [] is = cc
are_digits (digit ∷ digits) is = (and_parts (not (digit == 48)) (list_all is_ascii_digit (digit ∷ digits)) is).1

some_digit : (word : List ℕ) → is_number word ≡ true → 0 < length word
some_digit [] is = cc
some_digit (digit ∷ digits) is = omega arith

some_number : (word : List ℕ) → is_number word ≡ true → 1 ≤ digits_value 10 word
some_number [] is = cc
some_number (digit ∷ digits) is =
    let parts = and_parts (not (digit == 48)) (list_all is_ascii_digit (digit ∷ digits)) is in
    let within = digit_at (digit ∷ digits) 0 (all_digits (digit ∷ digits) parts.1) (omega arith) in
    let above : 48 < digit = grind (arith, within, parts.0) in
    omega (arith, digits_value-take-le 10 (digit ∷ digits) 1 (omega arith), digit_value_digit digit within, above)

no_plus : (word : List ℕ) → is_number word ≡ true → without_leading_plus word ≡ word
no_plus word is =
    let within = digit_at word 0 (all_digits word (are_digits word is)) (some_digit word is) in
    without_leading_plus_none word (λ plus. absurd (omega (arith, plus, within.0)))

module _ (most : ℕ) (word : List ℕ) (is : is_number word ≡ true) where
  -- its bytes are a text
  pub number_text : IsUtf8 word
  number_text = IsUtf8-from_ascii word (IsAscii-from_digits word (all_digits word (are_digits word is)))

  -- which is read as its value
  value : (text : List ℕ) → text ≡ word → digits_value 10 (without_leading_plus text) ≡ digits_value 10 word
  value text same = ap (λ t. digits_value 10 (without_leading_plus t)) same ∙ ap (digits_value 10) (no_plus word is)

  -- that is no zero
  pub some_value : (text : List ℕ) → text ≡ word → (number : ℕ) → number ≡ digits_value 10 (without_leading_plus text) → 1 ≤ number
  some_value text same number read = omega (arith, value text same, read, some_number word is)

  -- one that is not read is past 32 bits
  pub unread : (text : List ℕ) → text ≡ word → most < 2 ^ 32 → (IsNumeral 10 (without_leading_plus text) × (digits_value 10 (without_leading_plus text) < 2 ^ 32) → ⊥) → None ≡ number_in most word
  unread text same fits not_read =
      let plain : without_leading_plus text ≡ word = ap without_leading_plus same ∙ no_plus word is in
      let past : digits_value 10 word < 2 ^ 32 → ⊥ = λ under. not_read (rw plain ((some_digit word is, all_digits word (are_digits word is)), under)) in
      let over : nat_le (digits_value 10 word) most ≡ false = grind (arith, past, fits) in
      rw is (rw over refl)
