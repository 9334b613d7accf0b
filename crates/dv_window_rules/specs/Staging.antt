-- What the extract of one feed reads as, on the way through the feeds of a window.
use Rattle.std.specs.Prelude.{◌≡◌, ℕ, List, Option, Some, option_map, ⊤}
use Rattle.dv_catalog.specs.declared.windows.ExtractIn.{ExtractIn}
use Rattle.dv_catalog.specs.Entries.{Mapping}
use Rattle.dv_catalog.specs.Readings.{Read, reads}
use Rattle.dv_catalog.specs.Readings.Read.{Broken}
use Rattle.dv_catalog.specs.Windows.{extract_at, room_after}
use Rattle.dv_stage.specs.declared.faults.StageFault.{StageFault}
use Rattle.dv_stage.specs.declared.faults.StageFault.TheVariants as fault

-- what the extract that is given for the feed at a place reads as, where so many records were taken before it
abbrev pub read_at : Mapping → List ExtractIn → ℕ → ℕ → Option Read
read_at mapping extracts taken feed =
    option_map (λ extract. reads mapping extract.feed extract.bytes (room_after taken)) (extract_at mapping extracts feed)

-- the rule of the fault is the first that the extract breaks; want of memory tells nothing
abbrev pub TellsFeed : StageFault → Option Read → Type 0
TellsFeed (fault.Broken rule) read = read ≡ Some (Broken rule)
TellsFeed fault.Memory read = ⊤
