use Rattle.dv_desk.proofs.Vocabulary.{came_unbroken, sym, ◌∙◌}
use Rattle.dv_desk.proofs.Turned.{replied, unsaid}
use Rattle.dv_desk.proofs.desks.Desk.reply_to.Goals as goal

pub say-requires : goal.say-requires
say-requires g c = λ broken. came_unbroken _ (sym c.came_of.ensures ∙ broken)

pub returns-in-Ok-clause-replied : goal.returns-in-Ok-clause-replied
returns-in-Ok-clause-replied g c = replied g.H.KeyDigest.function c.args.request.now c.answer_to-answer.result _ _ c.answer_to-answer.ensures.answered c.in-Ok.reply c.in-Ok.ensures _ _ c.say.result (rw c.came_of.ensures at c.say.ensures.said)

pub returns-in-Err-clause-replied : goal.returns-in-Err-clause-replied
returns-in-Err-clause-replied g c = unsaid g.H.KeyDigest.function c.args.request.now c.answer_to-answer.result _ _ c.answer_to-answer.ensures.answered _

pub returns-in-Ok-clause-agrees : goal.returns-in-Ok-clause-agrees
returns-in-Ok-clause-agrees g c = c.answer_to-answer.ensures.answered.agrees

pub returns-in-Err-clause-agrees : goal.returns-in-Err-clause-agrees
returns-in-Err-clause-agrees g c = c.answer_to-answer.ensures.answered.agrees
