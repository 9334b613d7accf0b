-- Steps that may end in a fault.
use Rattle.std.specs.Prelude.{Result, Ok, Err}

infixl 10 ◌>>=◌
-- the next step, from what this one makes; a fault is the end of the steps
abbrev pub ◌>>=◌ : {A B F : Type 0} → Result A F → (A → Result B F) → Result B F
Ok made >>= next = next made
Err fault >>= next = Err fault
