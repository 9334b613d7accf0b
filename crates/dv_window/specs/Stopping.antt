-- Why a window is not loaded, as what it comes from and as the answer to it.
use Rattle.std.specs.Prelude.{ℕ, Bool, true, false, Result, Ok, Err}
use Rattle.dv_records.specs.declared.keepers.KeeperError.{KeeperError}
use Rattle.dv_records.specs.declared.keepers.KeeperError.TheVariants as error
use Rattle.dv_records.specs.declared.answers.ResumeAnswer.{ResumeAnswer}
use Rattle.dv_records.specs.declared.answers.ResumeAnswer.TheVariants as resumed
use Rattle.dv_restore.specs.declared.faults.StoreFault.{StoreFault}
use Rattle.dv_restore.specs.declared.faults.StoreFault.TheVariants as unread
use Rattle.dv_stage.specs.declared.faults.StageFault.{StageFault}
use Rattle.dv_stage.specs.declared.faults.StageFault.TheVariants as fault
use Rattle.dv_records.specs.declared.answers.LoadAnswer.{LoadAnswer}
use Rattle.dv_records.specs.declared.answers.LoadAnswer.TheVariants as answer
use Rattle.dv_window.specs.declared.stops.Stop.{Stop}
use Rattle.dv_window.specs.declared.stops.Stop.TheVariants as stop

abbrev pub stop_of_fault : StageFault → Stop
stop_of_fault (fault.Broken rule) = stop.Refused rule
stop_of_fault fault.Memory = stop.Memory

abbrev pub answer_of : Stop → LoadAnswer
answer_of stop.Repeated = answer.Repeated
answer_of (stop.Refused rule) = answer.Refused rule
answer_of stop.Memory = answer.Memory

-- ---- what a keeper's error is

abbrev pub is_failed : KeeperError → Bool
is_failed error.Failed = true
is_failed error.Memory = false

-- the answer to a window that was taken, or broken off
abbrev pub load_answer : Result ℕ KeeperError → LoadAnswer
load_answer (Ok rows) = answer.Loaded rows
load_answer (Err error.Failed) = answer.KeeperFault
load_answer (Err error.Memory) = answer.Memory

abbrev pub resume_answer : Result ℕ KeeperError → ResumeAnswer
resume_answer (Ok rows) = resumed.Loaded rows
resume_answer (Err error.Failed) = resumed.KeeperFault
resume_answer (Err error.Memory) = resumed.Memory

-- ---- where what a keeper has could not be read

-- what calls answer, whose office could not be refreshed
abbrev pub unrefreshed : StoreFault → LoadAnswer
unrefreshed (unread.Damaged damage) = answer.Damaged damage
unrefreshed unread.KeeperFault = answer.KeeperFault
unrefreshed unread.Memory = answer.Memory

abbrev pub unresumed : StoreFault → ResumeAnswer
unresumed (unread.Damaged damage) = resumed.Damaged damage
unresumed unread.KeeperFault = resumed.KeeperFault
unresumed unread.Memory = resumed.Memory
