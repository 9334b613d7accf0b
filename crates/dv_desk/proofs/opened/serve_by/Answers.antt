use Rattle.dv_desk.proofs.Vocabulary.{Err, ap, inl, inr, moment, refl, seen, ◌∙◌}
use Rattle.dv_desk.proofs.{DoorEnds.fault_is, DoorEnds.served_cause, DoorEnds.served_undamaged, DoorEnds.unstarted_cause, DoorEnds.unstarted_sound, Led.served_doors}
use Rattle.dv_desk.proofs.opened.serve_by.Goals as goal

pub returns-in-Err-clause-sound : goal.returns-in-Err-clause-sound
returns-in-Err-clause-sound g c =
    unstarted_sound _ c.end_unstarted.result c.in-Err.fault (λ damage e. c.in-Err.ensures.undamaged damage (ap Err e)) c.end_unstarted.ensures.says

pub returns-in-Err-clause-says : goal.returns-in-Err-clause-says
returns-in-Err-clause-says g c = inl (record {
  fault = c.in-Err.fault;
  is_fault = fault_is g.H.KeyDigest.function (g.K.Keeper.store c.args.keeper.now) (g.K.Keeper.faults c.args.keeper.now) (g.K.Keeper.faults c.start.new.keeper) c.in-Err.fault
      (λ e. c.in-Err.ensures.none (ap Err e)) (λ damage e. (c.in-Err.ensures.damaged damage (ap Err e), c.in-Err.ensures.formed damage (ap Err e))) (λ e. c.in-Err.ensures.cause (ap Err e));
  doors = refl;
  store = c.start.ensures.store;
  ends = c.end_unstarted.ensures.says;
})

pub returns-in-Err-clause-cause : goal.returns-in-Err-clause-cause
returns-in-Err-clause-cause g c = unstarted_cause _ _ (seen g.K.Keeper.store g.K.Keeper.faults c.args.keeper.now c.start.new.keeper) _ c.end_unstarted.result c.in-Err.fault (λ e. c.in-Err.ensures.cause (ap Err e)) c.end_unstarted.ensures.says

pub serve_with-status-requires-clause-agrees : goal.serve_with-status-requires-clause-agrees
serve_with-status-requires-clause-agrees g c = λ lifetimes outlive fresh. c.in-Ok.ensures.agrees

pub returns-clause-says : goal.returns-clause-says
returns-clause-says g c = inr (served_doors g.H.KeyDigest.function _ _ _ _ _ _ _ _
    (moment g.K.Keeper.store g.K.Keeper.faults c.in-Ok.office c.start.new.keeper) (moment g.K.Keeper.store g.K.Keeper.faults c.serve_with-status.new.office c.serve_with-status.new.keeper)
    (record {
      store_is = c.start.ensures.store;
      fresh = c.in-Ok.ensures.fresh;
      width_is = c.in-Ok.ensures.width;
      agrees = λ s told. c.in-Ok.ensures.agrees s (c.start.ensures.store ∙ told);
      in_form = c.in-Ok.ensures.in_form;
      stands = c.in-Ok.ensures.stands;
    }) refl c.start.ensures.later refl c.serve_with-status.ensures.serves)

pub returns-clause-cause : goal.returns-clause-cause
returns-clause-cause g c = served_cause _ _ _ _ (seen g.K.Keeper.store g.K.Keeper.faults c.args.keeper.now c.serve_with-status.new.keeper) c.serve_with-status.ensures.serves.ended c.serve_with-status.ensures.serves.cause c.serve_with-status.ensures.serves.ends

pub returns-clause-sound : goal.returns-clause-sound
returns-clause-sound g c = λ damaged. absurd (served_undamaged _ _ c.serve_with-status.ensures.serves.ended c.serve_with-status.ensures.serves.ends damaged)
