use Rattle.dv_board.proofs.Vocabulary.{AreWords, ◌≡◌}
use Rattle.dv_board.proofs.key_table.KeyTable.words_at.Given as goal

abbrev pub invariant-words : goal.invariant-words
invariant-words g l = record {
  mine : l.seat.table_id ≡ l.initial.seat.table_id;
  stays : l.seat.me ≡ l.initial.seat.me;
  words : AreWords (g.I.KeyItems.keys l.self.items) l.words;
}
