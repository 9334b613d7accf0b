use Rattle.dv_desk.proofs.Vocabulary.{arith, err_from_is_err_and, inl, inr, moment_of, none_left, none_served, refl, served_all, served_more, ◌∙◌}
use Rattle.dv_desk.proofs.desks.Desk.serve_doors.Goals as goal

pub loop-init : goal.loop-init
loop-init g c = record {
  so_far = none_served _ _ _ _ _;
  agrees = c.requires.agrees;
  place = refl;
  port = refl;
  later = omega arith;
}

pub returns-in_err-line-clause-serves : goal.returns-in_err-line-clause-serves
returns-in_err-line-clause-serves g c =
    let p = err_from_is_err_and c.from_residual.result c.from_residual.ensures.1 in
    rw (p.1, p.2) (served_all _ _ _ _ (moment_of g.K.Keeper c.args.self.now) _ (moment_of g.K.Keeper c.loop.self) c.loop.counter c.loop.invariant.so_far
    (g.D.Doors.lines c.next.new.self) c.in_err-line.ensures.err (omega arith) _ tt)

pub returns-in_default-clause-serves : goal.returns-in_default-clause-serves
returns-in_default-clause-serves g c =
    let none = none_left (g.D.Doors.lines c.loop.doors) (g.D.Doors.lines c.next.new.self) (rw c.in_default.is at c.in_ok-line.ensures.ok) in
    served_all _ _ _ _ (moment_of g.K.Keeper c.args.self.now) _ (moment_of g.K.Keeper c.loop.self) c.loop.counter c.loop.invariant.so_far (g.D.Doors.lines c.next.new.self) none.0 (omega arith) _ (inr none.1)

pub loop-preserved : goal.loop-preserved
loop-preserved g c = record {
  so_far = served_more _ _ _ _ _ _ _ c.loop.counter c.loop.invariant.so_far c.in-Some.line c.serve_connection-served.new.link (g.D.Doors.lines c.next.new.self) (g.D.Doors.lines c.done.new.self) _ c.serve_connection-served.result
      (rw c.in-Some.is at c.in_ok-line.ensures.ok) c.done.ensures.lines
      (record { serves = c.serve_connection-served.ensures.serves; cause = c.serve_connection-served.ensures.cause; later = c.serve_connection-served.ensures.later });
  agrees = c.serve_connection-served.ensures.agrees;
  place = c.serve_connection-served.ensures.place ∙ c.loop.invariant.place;
  port = c.done.ensures.port ∙ c.next.ensures.port ∙ c.loop.invariant.port;
  later = omega (arith, c.next.ensures.cause.later, c.done.ensures.faults, c.loop.invariant.later);
}

pub returns-clause-serves : goal.returns-clause-serves
returns-clause-serves g c = served_all _ _ _ _ _ _ _ c.loop.counter c.loop.invariant.so_far (g.D.Doors.lines c.loop.doors) refl (omega arith) _ (inl (omega arith))
