-- Laws of what connections give.
use Rattle.std.specs.Prelude.{◌≡◌, ℕ, List, Option}
use Rattle.dv_http.specs.Requests.{Gives, Refuses}
use Rattle.dv_http.specs.declared.requests.Request.{Request}
use Rattle.dv_http.specs.declared.requests.WireError.{WireError}
use Rattle.dv_http.specs.declared.requests.WireError.TheVariants as errors

abbrev pub OneRequest : Type 0
OneRequest = (bytes : List ℕ) (first second : Option Request) (left rest : List ℕ) → Gives bytes left first → Gives bytes rest second → (first ≡ second) × (left ≡ rest)

-- what stands in the bytes, in place of what came from outside or from the buffer
abbrev pub IsInBytes : WireError → Type 0
IsInBytes errors.Head = Unit {0}
IsInBytes errors.NoLength = Unit {0}
IsInBytes errors.BodyTooLong = Unit {0}
IsInBytes errors.Cut = Unit {0}
IsInBytes errors.Spent = ⊥
IsInBytes errors.ReadFault = ⊥
IsInBytes errors.Memory = ⊥

abbrev pub TakenNotRefused : Type 0
TakenNotRefused = (bytes : List ℕ) (taken : Option Request) (left : List ℕ) (error : WireError) → IsInBytes error → Gives bytes left taken → Refuses bytes error → ⊥
