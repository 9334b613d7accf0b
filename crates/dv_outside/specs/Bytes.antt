-- Bytes that are written, behind those that were.
use Rattle.std.specs.Prelude.{◌≡◌, ◌↔◌, ℕ, List, [], ◌++◌, Option, Some, None}

-- the contents after these bytes are put at the end, where they are told
abbrev pub after : Option (List ℕ) → List ℕ → Option (List ℕ)
after None bytes = None
after (Some old) bytes = Some (old ++ bytes)

-- a text is a front of another
pub record IsPrefix (part whole : List ℕ) : Type 0 where
  pub rest : List ℕ
  pub is : whole ≡ part ++ rest

-- a front of these bytes was put at the end
pub record GotPrefix (old new : Option (List ℕ)) (bytes : List ℕ) : Type 0 where
  pub piece : List ℕ
  pub is : new ≡ after old piece
  pub front : IsPrefix piece bytes

-- these bytes and then those that are left, where these are told
abbrev pub in_front : List ℕ → Option (List ℕ) → Option (List ℕ)
in_front bytes None = None
in_front bytes (Some left) = Some (bytes ++ left)

-- no byte was read exactly where none was left, where that is told
abbrev pub IsZeroAtEnd : ℕ → Option (List ℕ) → Type 0
IsZeroAtEnd n None = Unit {0}
IsZeroAtEnd n (Some left) = (n ≡ 0) ↔ (left ≡ [])
