use Rattle.dv_desk.proofs.Read.{stored_read}
use Rattle.dv_desk.proofs.desks.Desk.pit_at.Goals as goal

pub stored_text-requires-clause-fresh : goal.stored_text-requires-clause-fresh
stored_text-requires-clause-fresh g c = c.requires.fresh

pub returns-clause-read : goal.returns-clause-read
returns-clause-read g c = rw c.stored_answer.ensures (stored_read c.args.hub c.args.date _ _ c.requires.fresh c.stored_text.result (record {
  absent = c.stored_text.ensures.absent;
  damaged = c.stored_text.ensures.damaged;
  formed = c.stored_text.ensures.formed;
  state = c.stored_text.ensures.state;
  undamaged = c.stored_text.ensures.undamaged;
  stale = c.stored_text.ensures.stale;
  left = c.stored_text.ensures.left;
  kept = c.stored_text.ensures.kept;
  cause = c.stored_text.ensures.cause;
  later = c.stored_text.ensures.later;
}))
