-- The bytes of a digest that is held in place, and the number that it begins with.
use Rattle.std.specs.Prelude.{◌≡◌, ◌⊎◌, ℕ, ◌<◌, ◌==◌, List, length, take, if◌then◌else◌}
use Rattle.std.specs.List.{All}
use Rattle.std.specs.Slice.Scan.{big_endian}
use Rattle.dv_text.specs.declared.digests.Stored.{Stored}
use Rattle.dv_text.specs.declared.digests.Stored.TheVariants.{Short, Long}

-- the bytes that are held
abbrev pub stored_bytes : Stored → List ℕ
stored_bytes (Short bytes) = bytes
stored_bytes (Long bytes) = bytes

-- the arrays have their lengths
abbrev pub IsStored : Stored → Type 0
IsStored (Short bytes) = length bytes ≡ 16
IsStored (Long bytes) = length bytes ≡ 32

-- how bytes are held
abbrev pub stored_of : List ℕ → Stored
stored_of bytes = if length bytes == 16 then Short bytes else Long bytes

pub stored_of-stored_bytes : (s : Stored) → IsStored s → stored_of (stored_bytes s) ≡ s
stored_of-stored_bytes (Short bytes) h = rw h
stored_of-stored_bytes (Long bytes) h = rw h

-- 16 or 32 numbers, each of a byte
pub record IsDigest (bytes : List ℕ) : Type 0 where
  pub width : (length bytes ≡ 16) ⊎ (length bytes ≡ 32)
  pub fits : All (λ byte. byte < 256) bytes

-- 16 numbers, each of a byte
pub record IsShort (bytes : List ℕ) : Type 0 where
  pub width : length bytes ≡ 16
  pub fits : All (λ byte. byte < 256) bytes

-- the number that the first eight bytes spell, the greatest first
abbrev pub digest_prefix : List ℕ → ℕ
digest_prefix bytes = big_endian 0 (take 8 bytes)
