use Rattle.dv_crew.proofs.Vocabulary.{AreDone, GivesWith, false, numbers, tasks_drawn, times, ◌-◌, ◌<◌, ◌≡◌, ◌≤◌}
use Rattle.dv_crew.proofs.crews.work.Given as goal

abbrev pub decreases-draws : goal.decreases-draws
decreases-draws g l = l.board.tasks - l.above

abbrev pub invariant-draws : goal.invariant-draws
invariant-draws g l = record {
  board : l.seat.board ≡ l.board;
  fresh : l.seat.had_none ≡ false;
  share : l.seat.share ≡ l.fn.worker.seat.share;
  drew : numbers l.done.items ≡ l.seat.claims;
  latest : 0 < l.above → 1 ≤ times (l.above - 1) l.seat.claims;
  last : l.above ≤ l.board.tasks;
  each : AreDone (GivesWith (goal.F-post g l.crew.job.now)) l.crew.order l.crew.tasks l.done.items;
  did : g.C.Carrier.has_done l.crew.carrier.now l.own (tasks_drawn l.crew.order l.crew.tasks l.seat.claims);
  own_share : g.C.Carrier.share l.crew.carrier.now l.own ≡ g.C.Carrier.share l.crew.carrier.now l.fn.worker.own;
}
