use Rattle.dv_app.proofs.Vocabulary.{refl}
use Rattle.dv_app.proofs.RunSteps.{line_ends}
use Rattle.dv_app.proofs.replies.say.Goals as goal

pub returns-in-Memory-clause-says : goal.returns-in-Memory-clause-says
returns-in-Memory-clause-says g c = rw c.in-Memory.is (line_ends _ _ _ _ _ refl c.end-in-Memory.ensures.says)
