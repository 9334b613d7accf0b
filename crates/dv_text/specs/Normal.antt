-- The normal forms of fields and business keys: this project's own rule.
use Rattle.std.specs.Prelude.{ℕ, ◌-◌, ◌==◌, Bool, ◌||◌, List, length, take, drop, map}
use Rattle.std.specs.List.{prefix_len, suffix_len}
use Rattle.std.specs.Char.{to_ascii_uppercase}

-- space, tab, line feed or carriage return
abbrev pub is_blank : ℕ → Bool
is_blank b = b == 32 || b == 9 || b == 10 || b == 13

-- the text from its first byte that is no blank
abbrev pub without_leading : List ℕ → List ℕ
without_leading t = drop (prefix_len is_blank t) t

-- the text up to its last byte that is no blank
abbrev pub without_trailing : List ℕ → List ℕ
without_trailing t = take (length t - suffix_len is_blank t) t

-- a field's normal form: without blanks at both ends
abbrev pub norm_field : List ℕ → List ℕ
norm_field t = without_trailing (without_leading t)

-- a key part's normal form: that of a field, with a to z raised to A to Z
abbrev pub norm_key : List ℕ → List ℕ
norm_key t = map to_ascii_uppercase (norm_field t)
