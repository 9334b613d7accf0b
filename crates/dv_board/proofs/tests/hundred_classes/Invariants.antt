use Rattle.dv_board.proofs.Vocabulary.{length, ◌≡◌}
use Rattle.dv_board.proofs.tests.hundred_classes.Given as goal

abbrev pub invariant-loop-item : goal.invariant-loop-item
invariant-loop-item l = length l.tags.items ≡ l.count
