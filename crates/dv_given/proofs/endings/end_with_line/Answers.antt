use Rattle.dv_given.proofs.Vocabulary.{inr}
use Rattle.dv_given.proofs.endings.end_with_line.Goals as goal

pub returns-in-Err-clause-says : goal.returns-in-Err-clause-says
returns-in-Err-clause-says g c = inr c.end-in-Err.ensures.says
