-- What a call sees of an object of the outside.
use Rattle.std.specs.Prelude.{ℕ, Option}
use Rattle.dv_text.specs.Causes.{Rose}

-- what an object tells of its contents before a call and after it, and its count of faults then
pub record Seen (A : Type 0) : Type 0 where
  pub old : Option A
  pub new : Option A
  pub before : ℕ
  pub now : ℕ

-- the same, by what tells the contents of such an object and what counts its faults
abbrev pub seen : {S A : Type 0} → (S → Option A) → (S → ℕ) → S → S → Seen A
seen tells faults object object' = record { old = tells object; new = tells object'; before = faults object; now = faults object' }

-- no fault was counted
abbrev pub NoFault : ℕ → ℕ → Type 0
NoFault before now = Rose before now → ⊥
