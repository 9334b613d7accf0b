-- Numbers in words of the command line.
use Rattle.std.specs.Char.{is_ascii_digit}
use Rattle.std.specs.List.{list_all}
use Rattle.std.specs.Prelude.{ℕ, ◌==◌, Bool, false, ◌&&◌, not, nat_le, List, [], ◌∷◌, Option, Some, None, if◌then◌else◌}
use Rattle.std.specs.Str.Parse.{digits_value}

-- a decimal number: digits, of which the first is not 0
abbrev pub is_number : List ℕ → Bool
is_number [] = false
is_number (digit ∷ digits) = not (digit == 48) && list_all is_ascii_digit (digit ∷ digits)

-- the number that a word says, where it is no more than this
abbrev pub number_in : ℕ → List ℕ → Option ℕ
number_in most word = if is_number word && nat_le (digits_value 10 word) most then Some (digits_value 10 word) else None

-- a window is loaded by so many workers, where no words say it
abbrev pub default_workers : ℕ
default_workers = 4

-- how many workers a word says
abbrev pub workers_in : List ℕ → Option ℕ
workers_in word = number_in 64 word
