use Rattle.dv_window_keys.proofs.Vocabulary.{chosen, take, ◌≡◌}
use Rattle.dv_window_keys.proofs.kept_items.chosen.Given as goal

abbrev pub invariant-loop-number : goal.invariant-loop-number
invariant-loop-number l = l.offers.items ≡ chosen l.parent l.items (take l.number-index l.numbers)
