-- Numbers that agree with an order: of two values with different numbers the one with the lesser number comes first.
use Rattle.std.specs.Prelude.{◌≡◌, ℕ, zero, suc, ◌+◌, ◌*◌, ◌<◌, min, nat_lt, get_or, List, [], ◌∷◌, if◌then◌else◌}
use Rattle.std.specs.declared.cmp.Ordering.{Ordering}
use Rattle.std.specs.declared.cmp.Ordering.TheVariants.{Less}
use Rattle.dv_text.specs.declared.prefixes.Fronted.{Fronted}
use Rattle.dv_text.specs.declared.rows.Key.{Key}
use Rattle.dv_text.specs.declared.rows.NRow.{NRow}

-- where the numbers differ, they order as the values do
abbrev pub Agrees : {X : Type 0} → (X → ℕ) → (X → X → Ordering) → Type 0
Agrees {X} number cmp = (x y : X) → number x < number y → cmp x y ≡ Less

-- the number that so many bytes of a text spell behind a number, with zeros behind a shorter text, and behind what is no byte
unfoldable pub spelt : ℕ → ℕ → List ℕ → ℕ
spelt zero n text = n
spelt (suc k) n [] = spelt k (n * 256) []
spelt (suc k) n (b ∷ text) = spelt k (n * 256 + min b 256) (if nat_lt b 256 then text else [])

-- the number of the first sixteen bytes of a text
abbrev pub text_prefix : List ℕ → ℕ
text_prefix text = spelt 16 0 text

-- the number of the first item of a list, 0 where there is none
abbrev pub first_prefix : {X : Type 0} → (X → ℕ) → List X → ℕ
first_prefix prefix [] = 0
first_prefix prefix (x ∷ xs) = prefix x

-- the number of the first part of a key
abbrev pub key_prefix : Key → ℕ
key_prefix key = first_prefix text_prefix key.parts

-- the number of the first reference of a row
abbrev pub row_prefix : NRow → ℕ
row_prefix row = first_prefix key_prefix row.refs

-- the byte at a place of a text, 0 where there is none
abbrev pub byte_at : List ℕ → ℕ → ℕ
byte_at text place = get_or text place 0

-- an item behind its number
abbrev pub fronted : {X : Type 0} → (X → ℕ) → X → Fronted X
fronted number x = record { prefix = number x; item = x }
