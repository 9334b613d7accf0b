use Rattle.dv_desk.proofs.Vocabulary.{sym, ◌∙◌}
use Rattle.dv_desk.proofs.Turned.{faulty_answered, load_answered, memory_answered, not_json_answered}
use Rattle.dv_desk.proofs.desks.Desk.load.Goals as goal

pub returns-in-Ok-Given-clause-answered : goal.returns-in-Ok-Given-clause-answered
returns-in-Ok-Given-clause-answered g c = rw c.from.ensures (load_answered g.H.KeyDigest.function _ _ c.load-came.result c.args.body.now c.in-Ok-Given.given (sym c.in-Ok-Given.ensures ∙ c.in-Ok-Given.field-0-is) c.requires.fresh (record {
  step = c.load-came.ensures.step;
  store = c.load-came.ensures.store;
  office = c.load-came.ensures.kept c.requires.fresh;
  stale = c.load-came.ensures.stale;
  damaged = c.load-came.ensures.damaged;
  formed = c.load-came.ensures.formed;
  undamaged = c.load-came.ensures.undamaged;
  cause = c.load-came.ensures.cause;
  mapping = c.load-came.ensures.mapping;
  width = c.load-came.ensures.width.0 c.requires.fresh;
  told = c.load-came.ensures.stays;
  later = c.load-came.ensures.later;
  agrees = c.load-came.ensures.agrees;
}))

pub returns-in-Ok-Faulty-clause-answered : goal.returns-in-Ok-Faulty-clause-answered
returns-in-Ok-Faulty-clause-answered g c =
    faulty_answered g.H.KeyDigest.function c.args.body.now _ c.requires.fresh c.requires.agrees c.in-Ok-Faulty.place (sym c.in-Ok-Faulty.ensures ∙ c.in-Ok-Faulty.field-0-is)

pub returns-in-Ok-NotJson-clause-answered : goal.returns-in-Ok-NotJson-clause-answered
returns-in-Ok-NotJson-clause-answered g c = not_json_answered g.H.KeyDigest.function c.args.body.now _ c.requires.fresh c.requires.agrees (sym c.in-Ok-NotJson.ensures ∙ c.in-Ok-NotJson.field-0-is)

pub returns-in-Err-clause-answered : goal.returns-in-Err-clause-answered
returns-in-Err-clause-answered g c = memory_answered g.H.KeyDigest.function c.args.body.now _ c.requires.fresh c.requires.agrees
