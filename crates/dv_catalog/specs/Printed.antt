-- How names and values are printed.
use Rattle.std.specs.Prelude.{ℕ, ◌==◌, ◌||◌, List, ◌∷◌, ◌++◌, map, nat_lt, if◌then◌else◌}

-- a control byte is printed as `?`
abbrev pub printed_byte : ℕ → ℕ
printed_byte b = if nat_lt b 32 || (b == 127) then 63 else b

-- a text as it is printed
abbrev pub printed : List ℕ → List ℕ
printed text = map printed_byte text

-- a field of a printed rule: a space, its name, an equals sign and its value
abbrev pub printed_field : List ℕ → List ℕ → List ℕ
printed_field name value = 32 ∷ name ++ 61 ∷ printed value
