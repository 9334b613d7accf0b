use Rattle.dv_desk.proofs.Vocabulary.{CanReply, IsReplied, SoFar, moment_of, places, refusal, tells, ◌≡◌, ◌≤◌}
use Rattle.dv_desk.proofs.desks.Desk.serve_doors.Given as goal

-- so many connections were served and given back
abbrev pub invariant-loop : goal.invariant-loop
invariant-loop g l = record {
  so_far : SoFar (IsReplied g.H.KeyDigest.function) refusal (tells g.D.Line.Link) (g.D.Doors.lines l.fn.doors) (g.D.Doors.lines l.doors) (moment_of g.K.Keeper l.fn.self) (moment_of g.K.Keeper l.self) l.counter;
  agrees : CanReply (moment_of g.K.Keeper l.self);
  place : places l.self ≡ places l.fn.self;
  port : g.D.Doors.named l.doors ≡ g.D.Doors.named l.fn.doors;
  later : g.D.Doors.faults l.fn.doors ≤ g.D.Doors.faults l.doors;
}
