use Rattle.dv_desk.proofs.Vocabulary.{Err, ap, refl}
use Rattle.dv_desk.proofs.Turned.{unrefreshed_answered, was_stale}
use Rattle.dv_desk.proofs.desks.Desk.refresh.Goals as goal

pub returns-in-Ok-clause-refreshed : goal.returns-in-Ok-clause-refreshed
returns-in-Ok-clause-refreshed g c = record {
  fresh = c.in-Ok.ensures.fresh;
  still = λ fresh. (c.in-Ok.ensures.still fresh).1;
  stands = c.in-Ok.ensures.stands;
  mapping = c.in-Ok.ensures.mapping;
  width = λ stale. c.in-Ok.ensures.width.1 stale c.in-Ok.ensures.fresh;
  store = c.in-Ok.ensures.store;
  agrees = c.in-Ok.ensures.agrees;
  later = c.in-Ok.ensures.later;
}

pub returns-in-Err-clause-refreshed : goal.returns-in-Err-clause-refreshed
returns-in-Err-clause-refreshed g c = rw c.unrefreshed.ensures (
    unrefreshed_answered g.H.KeyDigest.function _ _ (was_stale c.args.self.now.office.now (Err c.in-Err.fault) c.in-Err.fault refl (λ fresh. (c.in-Err.ensures.still fresh).0)) c.in-Err.ensures.kept c.in-Err.ensures.store c.in-Err.ensures.later c.in-Err.fault
    (record {
      rose = λ e. c.in-Err.ensures.cause (ap Err e);
      damaged = λ damage e. (c.in-Err.ensures.damaged damage (ap Err e), c.in-Err.ensures.formed damage (ap Err e));
      undamaged = λ damage e. c.in-Err.ensures.undamaged damage (ap Err e);
    }) c.requires.agrees)
