use Rattle.dv_desk.proofs.WordSteps.{too_many}
use Rattle.dv_desk.proofs.words.workers_said.Goals as goal

pub returns-in_default-2-clause-workers : goal.returns-in_default-2-clause-workers
returns-in_default-2-clause-workers c = too_many c.args.words.now c.in_default.len_at_least
