-- How a command ends: with a last line and a status, or cut short by a fault of the sink.
use Rattle.std.specs.Prelude.{◌≡◌, ◌⊎◌, ℕ, List, [], ◌∷◌, ◌++◌, Option}
use Rattle.dv_text.specs.Causes.{Rose}
use Rattle.dv_outside.specs.Bytes.{after, GotPrefix}
use Rattle.dv_outside.specs.declared.statuses.Status.{Status}
use Rattle.dv_outside.specs.declared.statuses.Status.TheVariants.{WriteFault}

-- two pieces and a line feed
abbrev pub line_of : List ℕ → List ℕ → List ℕ
line_of first second = first ++ second ++ 10 ∷ []

-- the text was written whole, and the status is this one
pub record Said (status : Status) (text : List ℕ) (old new : Option (List ℕ)) (result : Status) : Type 0 where
  pub status_is : result ≡ status
  pub is : new ≡ after old text

-- a front of the text was written, and the sink failed
pub record Cut (text : List ℕ) (old new : Option (List ℕ)) (before now : ℕ) (result : Status) : Type 0 where
  pub status_is : result ≡ WriteFault
  pub rose : Rose before now
  pub got : GotPrefix old new text

-- a command whose last text and status are these ends so, or it is cut short
abbrev pub Ends : Status → List ℕ → Option (List ℕ) → Option (List ℕ) → ℕ → ℕ → Status → Type 0
Ends status text old new before now result = Said status text old new result ⊎ Cut text old new before now result

-- it ends with one of the statuses and texts that may end it, or it is cut short
pub record Stops (MayEnd : Status → List ℕ → Type 0) (old new : Option (List ℕ)) (before now : ℕ) (result : Status) : Type 0 where
  pub status : Status
  pub text : List ℕ
  pub may : MayEnd status text
  pub ends : Ends status text old new before now result

-- the status is this one, or that of a write fault where the count of faults rose
abbrev pub EndsWith : Status → ℕ → ℕ → Status → Type 0
EndsWith status before now result = (result ≡ status) ⊎ ((result ≡ WriteFault) × Rose before now)
