-- How an answer of the reader is tied to the outcome that the definitions give.
use Rattle.std.specs.Prelude.{◌≡◌, ℕ, List, Result, Ok, Err, ⊤}
use Rattle.dv_mapfile.specs.declared.shape_faults.ShapeFault.{ShapeFault}
use Rattle.dv_mapfile.specs.declared.shape_faults.ShapeFault.TheVariants.{At, Memory}

-- the answer is the outcome, unless memory ran out
abbrev pub Meets : {X : Type 0} → Result X ShapeFault → Result X (List ℕ) → Type 0
Meets (Ok made) outcome = outcome ≡ Ok made
Meets (Err (At place)) outcome = outcome ≡ Err place
Meets (Err Memory) outcome = ⊤

-- the same, where the outcome is of what the answer shows
abbrev pub MeetsAs : {A X : Type 0} → (A → X) → Result A ShapeFault → Result X (List ℕ) → Type 0
MeetsAs shown (Ok made) outcome = outcome ≡ Ok (shown made)
MeetsAs shown (Err (At place)) outcome = outcome ≡ Err place
MeetsAs shown (Err Memory) outcome = ⊤
