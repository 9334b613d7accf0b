use Rattle.dv_board.proofs.Vocabulary.{false, times, ◌-◌, ◌<◌, ◌≡◌, ◌≤◌}
use Rattle.dv_board.proofs.tests.draw_all.Given as goal

abbrev pub decreases-draws : goal.decreases-draws
decreases-draws l = l.board.tasks - l.next

abbrev pub invariant-draws : goal.invariant-draws
invariant-draws l = record {
  board : l.seat.board ≡ l.board;
  fresh : l.seat.had_none ≡ false;
  share : l.seat.share ≡ l.initial.seat.share;
  latest : 0 < l.next → 1 ≤ times (l.next - 1) l.seat.claims;
  last : l.next ≤ l.board.tasks;
}
