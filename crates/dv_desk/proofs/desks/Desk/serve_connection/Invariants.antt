use Rattle.dv_desk.proofs.Vocabulary.{CanReply, Going, IsReplied, moment_of, places, unread, ◌≡◌, ◌≤◌}
use Rattle.dv_desk.proofs.desks.Desk.serve_connection.Given as goal

-- so many requests were taken, answered and replied to
abbrev pub invariant-loop-requests : goal.invariant-loop-requests
invariant-loop-requests g l = record {
  going : Going (IsReplied g.H.KeyDigest.function) (g.L.Link.left l.fn.link) (unread l.buffer (g.L.Link.left l.link)) (g.L.Link.contents l.fn.link) (g.L.Link.contents l.link)
      (moment_of g.K.Keeper l.fn.self) (moment_of g.K.Keeper l.self) l.requests;
  agrees : CanReply (moment_of g.K.Keeper l.self);
  place : places l.self ≡ places l.fn.self;
  later : g.L.Link.faults l.fn.link ≤ g.L.Link.faults l.link;
}
