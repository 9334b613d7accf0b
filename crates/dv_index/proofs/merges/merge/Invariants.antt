use Rattle.dv_index.proofs.Vocabulary.{parents_of}
use Rattle.dv_index.proofs.{EntryOrder.entry_lt, EntryOrder.entry_order, Merging.IsMerging}
use Rattle.dv_index.proofs.merges.merge.Given as goal

-- what was moved so far
abbrev pub invariant-loop-left : goal.invariant-loop-left
invariant-loop-left g l = IsMerging (entry_lt (parents_of g.R.Placed.place l.rows)) (entry_order (parents_of g.R.Placed.place l.rows)) l.fn.index.items l.arrivals l.index.items l.end l.left

abbrev pub decreases-loop-left : goal.decreases-loop-left
decreases-loop-left g l = l.left
