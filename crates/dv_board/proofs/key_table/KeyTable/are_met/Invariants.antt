use Rattle.dv_board.proofs.Vocabulary.{length, ◌≡◌}
use Rattle.dv_board.proofs.key_table.KeyTable.are_met.Given as goal

abbrev pub invariant-items : goal.invariant-items
invariant-items g l = length l.is_met ≡ 32
