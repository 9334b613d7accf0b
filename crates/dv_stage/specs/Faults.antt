-- What a fault tells.
use Rattle.std.specs.Prelude.{◌≡◌, Option, Some, ⊤}
use Rattle.dv_catalog.specs.declared.rules.Rule.{Rule}
use Rattle.dv_catalog.specs.Readings.{Read}
use Rattle.dv_catalog.specs.Readings.Read.{Broken}
use Rattle.dv_stage.specs.declared.faults.StageFault.{StageFault}
use Rattle.dv_stage.specs.declared.faults.StageFault.TheVariants as fault

-- the rule of the fault is the first that is broken; want of memory tells nothing
abbrev pub TellsRule : StageFault → Option Rule → Type 0
TellsRule (fault.Broken rule) first = first ≡ Some rule
TellsRule fault.Memory first = ⊤

-- the same of an extract
abbrev pub TellsRead : StageFault → Read → Type 0
TellsRead (fault.Broken rule) read = read ≡ Broken rule
TellsRead fault.Memory read = ⊤
