-- A digest for tests, which tells little of a text.
use Rattle.std.specs.Prelude.{◌≡◌, ℕ, List, [], ◌∷◌, length, replicate, refl}

-- sixteen bytes: the text's first byte, and ones behind it
abbrev pub tiny : List ℕ → List ℕ
tiny [] = replicate 16 1
tiny (first ∷ rest) = first ∷ replicate 15 1

pub length-tiny : (text : List ℕ) → length (tiny text) ≡ 16
length-tiny [] = refl
length-tiny (first ∷ rest) = refl
