use Rattle.dv_window_keys.proofs.Vocabulary.{◌≤◌}
use Rattle.dv_window_keys.proofs.item_ranges.end_of.Given as goal

abbrev pub invariant-numbers : goal.invariant-numbers
invariant-numbers l = record {
  low : l.from ≤ l.item;
  high : l.item ≤ l.to;
}
