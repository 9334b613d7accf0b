use Rattle.dv_desk.specs.declared.answers.Answer.TheVariants as answers
use Rattle.dv_desk.proofs.Vocabulary.{Load, NotAllowed, NotFound, Read, query_as}
use Rattle.dv_desk.proofs.Turned.{answered_behind, answered_for, not_allowed_answered, nowhere_answered, read_answered}
use Rattle.dv_desk.proofs.desks.Desk.answer_to.Goals as goal

pub returns-in-NotFound-clause-answered : goal.returns-in-NotFound-clause-answered
returns-in-NotFound-clause-answered g c = answered_for _ NotFound _ answers.NotFound _ _ c.in-NotFound.ensures (nowhere_answered g.H.KeyDigest.function _ c.requires.agrees)

pub returns-in-NotAllowed-clause-answered : goal.returns-in-NotAllowed-clause-answered
returns-in-NotAllowed-clause-answered g c =
    answered_for _ (NotAllowed c.in-NotAllowed.methods) _ (answers.NotAllowed c.in-NotAllowed.methods) _ _ c.in-NotAllowed.ensures (not_allowed_answered g.H.KeyDigest.function c.in-NotAllowed.methods _ c.requires.agrees)

pub returns-in-Ok-clause-answered : goal.returns-in-Ok-clause-answered
returns-in-Ok-clause-answered g c =
    answered_for _ (Load c.in-Load.body.now) _ c.load.result _ _ c.in-Load.ensures (answered_behind g.H.KeyDigest.function (Load c.in-Load.body.now) c.load.result _ _ _ tt c.in-Ok.ensures.refreshed c.load.ensures.answered)

pub returns-in-Err-clause-answered : goal.returns-in-Err-clause-answered
returns-in-Err-clause-answered g c = answered_for _ (Load c.in-Load.body.now) _ c.in-Err.answer _ _ c.in-Load.ensures (c.in-Err.ensures.refreshed (Load c.in-Load.body.now) tt)

pub returns-in-Ok-refresh-clause-answered : goal.returns-in-Ok-refresh-clause-answered
returns-in-Ok-refresh-clause-answered g c =
    let refreshed = c.in-Ok-refresh.ensures.refreshed in
    let query = query_as c.in-Read.query in
    answered_for _ (Read query) _ c.read.result _ _ c.in-Read.ensures
    (answered_behind g.H.KeyDigest.function (Read query) c.read.result _ _ _ tt refreshed (read_answered g.H.KeyDigest.function query _ _ c.read.result refreshed.fresh refreshed.agrees c.read.ensures.read))

pub returns-in-Err-refresh-clause-answered : goal.returns-in-Err-refresh-clause-answered
returns-in-Err-refresh-clause-answered g c =
    answered_for _ (Read (query_as c.in-Read.query)) _ c.in-Err-refresh.answer _ _ c.in-Read.ensures (c.in-Err-refresh.ensures.refreshed (Read (query_as c.in-Read.query)) tt)
