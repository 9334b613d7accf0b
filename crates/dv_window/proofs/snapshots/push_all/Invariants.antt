use Rattle.dv_window.proofs.Vocabulary.{take, ◌++◌, ◌≡◌}
use Rattle.dv_window.proofs.snapshots.push_all.Given as goal

-- the heads so far are at the end
abbrev pub invariant-loop-head : goal.invariant-loop-head
invariant-loop-head l = l.made ≡ l.fn.made ++ take l.head-index l.heads
