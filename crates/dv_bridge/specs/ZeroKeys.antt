-- The zero key, which stands for a missing business key (Linstedt and Olschimke 2015, chapter 4, on links).
use Rattle.std.specs.Prelude.{◌≡◌, ℕ, ◌==◌, Bool, true, List, [], ◌∷◌, length, replicate}
use Rattle.std.specs.List.{list_all}
use Rattle.dv_text.specs.declared.rows.Key.{Key}
use Rattle.dv_text.specs.Keys.{Hashes, is_missing}

-- a hash key is the zero key where all its bytes are zero
abbrev pub is_zero : List ℕ → Bool
is_zero digest = list_all (λ byte. byte == 0) digest

-- hash keys have one width, and that of a missing key is the zero key
pub record HasZeroKeys (hashes : Hashes) : Type 0 where
  pub width : ℕ
  pub sized : (refs : List Key) → length (hashes.hash refs) ≡ width
  pub zero : (key : Key) → is_missing key ≡ true → hashes.hash (key ∷ []) ≡ replicate width 0
