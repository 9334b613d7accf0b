-- How the connections of doors are served, one after another.
use Rattle.std.specs.Prelude.{◌≡◌, ◌⊎◌, ℕ, ◌+◌, ◌≤◌, List, [], ◌∷◌, ◌++◌, length, Option, Some, None, IfSome, Result, Ok, Err}
use Rattle.dv_outside.specs.Lines.{Lines}
use Rattle.dv_outside.specs.declared.folders.Failed.{Failed}
use Rattle.dv_http.specs.declared.replies.Reply.{Reply}
use Rattle.dv_http.specs.declared.requests.Request.{Request}
use Rattle.dv_http.specs.declared.requests.WireError.{WireError}
use Rattle.dv_serving.specs.declared.served.Served.{Served}
use Rattle.dv_serving.specs.Serving.{IsServedCause, ServesOn, Tells}

-- the most connections
abbrev pub most_lines : ℕ
most_lines = 4294967295

-- a connection was served, and came back so; a fault of it ended its serving only where its own count rose
pub record ServesLine {L M : Type 0} (turn : M → Request → Reply → M → Type 0) (refusal : WireError → Option Reply) (tells : Tells L) (line back : L) (before after : M) (how : Served) : Type 0 where
  pub serves : ServesOn turn refusal tells line back before after how
  pub cause : IsServedCause (tells.faults line) (tells.faults back) how
  pub later : tells.faults line ≤ tells.faults back

-- each connection, as it was given, is served and given back as it is then
abbrev pub ServesEach : {L M : Type 0} → (M → Request → Reply → M → Type 0) → (WireError → Option Reply) → Tells L → List L → List L → M → M → Type 0
ServesEach turn refusal tells [] [] before after = after ≡ before
ServesEach {L} {M} turn refusal tells (line ∷ lines) (back ∷ backs) before after =
    (next : M) × (how : Served) × ServesLine turn refusal tells line back before next how × ServesEach turn refusal tells lines backs next after
ServesEach turn refusal tells [] (back ∷ backs) before after = ⊥
ServesEach turn refusal tells (line ∷ lines) [] before after = ⊥

-- the first of those that were to come were given, and came back in their order
pub record PassesTold {L : Type 0} (old new : Lines L) (lines backs : List L) : Type 0 where
  pub coming : old.coming ≡ lines ++ new.coming
  pub given : new.given ≡ old.given + length lines
  pub served : new.served ≡ old.served ++ backs

-- the same, where the doors tell it
abbrev pub Passes : {L : Type 0} → Option (Lines L) → Option (Lines L) → List L → List L → Type 0
Passes None new lines backs = new ≡ None
Passes {L} (Some old) new lines backs = (now : Lines L) × (new ≡ Some now) × PassesTold old now lines backs

-- it ended where no connection was left, or as many were served as may be; or the doors failed
abbrev pub DoorsEnd : {L : Type 0} → ℕ → Option (Lines L) → Result (Unit {0}) Failed → Type 0
DoorsEnd count new (Ok done) = (count ≡ most_lines) ⊎ IfSome new (λ lines. lines.coming ≡ [])
DoorsEnd count new (Err fault) = Unit {0}

-- the connections that came through doors were served one after another
pub record ServesDoors {L M : Type 0} (turn : M → Request → Reply → M → Type 0) (refusal : WireError → Option Reply) (tells : Tells L) (old new : Option (Lines L)) (before after : M) (ended : Result (Unit {0}) Failed) : Type 0 where
  pub lines : List L
  pub backs : List L
  pub each : ServesEach turn refusal tells lines backs before after
  pub passes : Passes old new lines backs
  pub few : length lines ≤ most_lines
  pub ends : DoorsEnd (length lines) new ended
