use Rattle.dv_window_keys.proofs.Vocabulary.{AreRanges, AreUpTo, length, ◌≡◌, ◌≤◌}
use Rattle.dv_window_keys.proofs.item_ranges.ranges_of.Given as goal

-- the ranges so far
abbrev pub invariant-loop-task : goal.invariant-loop-task
invariant-loop-task l = record {
  are : AreRanges (length l.items) l.ranges.items;
  many : length l.ranges.items ≡ l.task-index;
  all : AreUpTo l.ranges.items l.end;
  last : l.end ≤ length l.items;
}
