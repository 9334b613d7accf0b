use Rattle.dv_index.proofs.Vocabulary.{not, parents_of, ◌-◌}
use Rattle.dv_index.proofs.{EntryOrder.entry_lt, Reached.IsNarrowed}
use Rattle.dv_index.proofs.merges.count_up_to.Given as goal

-- all entries before `low` stand up to the entry, and none from `high` on
abbrev pub invariant-loop-low : goal.invariant-loop-low
invariant-loop-low g l = IsNarrowed (λ other. not (entry_lt (parents_of g.R.Placed.place l.rows) l.entry other)) l.index l.low l.high

abbrev pub decreases-loop-low : goal.decreases-loop-low
decreases-loop-low g l = l.high - l.low
