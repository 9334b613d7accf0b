-- Where a rule of form is broken: the first row of a table that breaks one, and the least number of a rule that it breaks.
use Rattle.std.specs.Option.{option_map}
use Rattle.std.specs.Prelude.{ℕ, ◌+◌, Bool, List, [], Option, Some, None, length, if◌then◌else◌}
use Rattle.dv_catalog.specs.FirstOf.{first_along}
use Rattle.dv_store_rules.specs.declared.flaws.Flaw.{Flaw}

-- the number of a rule of form that doesn't hold
abbrev pub if_broken : ℕ → Bool → Option ℕ
if_broken rule holds = if holds then None else Some rule

-- a row that breaks a rule, told from the rows before it and the row itself; rows count from 1
abbrev pub flaw_behind : {R : Type 0} → (List R → R → Option ℕ) → List R → R → Option Flaw
flaw_behind rule_of before row = option_map (λ rule. record { row = length before + 1; rule = rule }) (rule_of before row)

-- the first row of a table that breaks a rule; what stands behind it is not looked at
abbrev pub first_flaw : {R : Type 0} → (List R → R → Option ℕ) → List R → Option Flaw
first_flaw rule_of rows = first_along (flaw_behind rule_of) [] rows
