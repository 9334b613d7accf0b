use Rattle.dv_app.proofs.Vocabulary.{Does}
use Rattle.dv_app.proofs.WorkSteps.{one_of}
use Rattle.dv_app.proofs.works.Work.reply_to.Goals as goal

pub returns-in-Err-clause-replied : goal.returns-in-Err-clause-replied
returns-in-Err-clause-replied g c = record { does = one_of (Does _ _ _) _ c.in-Err.ensures.works.comes.0 c.in-Err.ensures.works.comes.1 _ c.reply_of.ensures; later = c.in-Err.ensures.works.later }
