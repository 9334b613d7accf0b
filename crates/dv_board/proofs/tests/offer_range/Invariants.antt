use Rattle.dv_board.proofs.Vocabulary.{IsSeatOf, ◌≡◌}
use Rattle.dv_board.proofs.tests.offer_range.Given as goal

abbrev pub invariant-items : goal.invariant-items
invariant-items g l = record {
  seat : IsSeatOf g.I.KeyItems.keys l.table l.seat;
  share : l.seat.share ≡ l.initial.seat.share;
}
