-- The failures that are planned for a keeper in memory, and what came of them.
use Rattle.std.specs.Prelude.{◌≡◌, ℕ, ◌+◌, ◌-◌, ◌^◌, ◌==◌, min, Bool, true, false, IsTrue, List, [], ◌∷◌, Option, Some, None, Result, Ok, Err, find, if◌then◌else◌}
use Rattle.std.specs.List.{list_any}
use Rattle.dv_records.specs.declared.keepers.KeeperError.{KeeperError}
use Rattle.dv_records.specs.declared.keepers.KeeperError.TheVariants.{Failed, Memory}
use Rattle.dv_records.specs.declared.planned_failures.Fail.{Fail}
use Rattle.dv_records.specs.declared.planned_failures.Turn.{Turn}
use Rattle.dv_records.specs.declared.planned_failures.Turn.TheVariants.{Works, FailsBefore, FailsAfter}

-- the failures that are still planned, how many calls changed the store or were to, and how many calls failed
pub record Plan : Type 0 where
  pub fails : List Fail
  pub changes : ℕ
  pub faults : ℕ

-- the plan of a keeper that was not called yet
abbrev pub new_plan : List Fail → Plan
new_plan fails = record { fails = fails; changes = 0; faults = 0 }

-- one more, up to the largest number of 64 bits
abbrev pub one_more : ℕ → ℕ
one_more n = min (n + 1) (2 ^ 64 - 1)

-- ---- calls that read

-- whether the next reading call is to fail
abbrev pub read_fails : List Fail → Bool
read_fails fails = list_any (λ fail. fail.change == 0) fails

-- all but the first that passes the test
abbrev pub without_first : {X : Type 0} → (X → Bool) → List X → List X
without_first test [] = []
without_first test (x ∷ xs) = if test x then xs else x ∷ without_first test xs

-- the plan after a reading call failed: its failure is used up
abbrev pub after_read : Plan → Plan
after_read plan = record plan { fails = without_first (λ fail. fail.change == 0) plan.fails; faults = one_more plan.faults }

-- a reading call fails exactly where it is to, and uses the failure up; otherwise it leaves the plan
abbrev pub ReadTurn : {T : Type 0} → Plan → Plan → Result T KeeperError → Type 0
ReadTurn old new (Ok _) = (read_fails old.fails ≡ false) × (new ≡ old)
ReadTurn old new (Err Memory) = (read_fails old.fails ≡ false) × (new ≡ old)
ReadTurn old new (Err Failed) = IsTrue (read_fails old.fails) × (new ≡ after_read old)

-- ---- calls that change

abbrev pub turn_of : Option Fail → Turn
turn_of None = Works
turn_of (Some fail) = if fail.done then FailsAfter else FailsBefore

-- what is planned for the next changing call: what the first failure of its number says, if there is one
abbrev pub next_turn : Plan → Turn
next_turn plan = turn_of (find (λ fail. fail.change == one_more plan.changes) plan.fails)

-- the plan after a changing call that worked
abbrev pub after_change : Plan → Plan
after_change plan = record plan { changes = one_more plan.changes }

-- the plan after a changing call that failed
abbrev pub after_failure : Plan → Plan
after_failure plan = record plan { changes = one_more plan.changes; faults = one_more plan.faults }

-- whether the change is made
abbrev pub takes_effect : Turn → Bool
takes_effect Works = true
takes_effect FailsBefore = false
takes_effect FailsAfter = true

-- how a changing call of this turn ends, once its change is made or left out
abbrev pub EndsTurn : Turn → Plan → Plan → Result Unit KeeperError → Type 0
EndsTurn turn old new (Ok _) = (turn ≡ Works) × (new ≡ after_change old)
EndsTurn Works old new (Err _) = ⊥
EndsTurn FailsBefore old new (Err e) = (e ≡ Failed) × (new ≡ after_failure old)
EndsTurn FailsAfter old new (Err e) = (e ≡ Failed) × (new ≡ after_failure old)
