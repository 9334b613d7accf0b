-- What a buffer holds, and what a read adds to it.
use Rattle.std.specs.Prelude.{◌≡◌, ℕ, Bool, List, [], ◌++◌, slice_range, Option, IfSome}
use Rattle.dv_outside.specs.Bytes.{in_front}
use Rattle.dv_http.specs.declared.buffers.Buffer.{Buffer}

-- for how many bytes it has room
abbrev pub room : ℕ
room = 32768

-- the bytes that were read and not yet taken
abbrev pub held : Buffer → List ℕ
held buffer = slice_range buffer.bytes.items buffer.start buffer.end

-- whether a call with it answered an error
abbrev pub is_spent : Buffer → Bool
is_spent buffer = buffer.spent

-- a piece that was still to be read came behind what was held
pub record Came (old new : List ℕ) (left rest : Option (List ℕ)) : Type 0 where
  pub piece : List ℕ
  pub is : new ≡ old ++ piece
  pub read : left ≡ in_front piece rest

-- nothing is left to be read, where that is told
abbrev pub HasEnded : Option (List ℕ) → Type 0
HasEnded left = IfSome left (λ bytes. bytes ≡ [])
