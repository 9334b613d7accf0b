use Rattle.dv_board.proofs.Vocabulary.{IsProbing, [], length, ◌<◌, ◌≡◌, ◌≤◌}
use Rattle.dv_board.proofs.key_table.KeyTable.probe.Given as goal

abbrev pub invariant-probe : goal.invariant-probe
invariant-probe g l = record {
  mine : l.seat-inside.seat.table_id ≡ l.initial.seat-inside.seat.table_id;
  free : l.seat-inside.seat.me.1 ≡ [];
  inside : l.passed < length (g.I.KeyItems.keys l.self.items).classes;
  share : 1 ≤ l.initial.seat-inside.seat.me.0.share;
  probing : IsProbing l.initial.seat-inside.seat.me.0 l.item l.passed l.seat-inside.seat.me.0;
}

abbrev pub ghosts-is_settled : goal.ghosts-is_settled
ghosts-is_settled g a = record { item = a.item }
