use Rattle.dv_index.proofs.Vocabulary.{is_entry_reached, loads_of, parents_of, ◌-◌, ◌≤◌}
use Rattle.dv_index.proofs.Reached.{IsNarrowed}
use Rattle.dv_index.proofs.askings.count_from.Given as goal

-- all entries before `low` are reached, and none from `high` on
abbrev pub invariant-loop-low : goal.invariant-loop-low
invariant-loop-low g l = record {
  from : l.start ≤ l.low;
  narrowed : IsNarrowed (is_entry_reached (parents_of g.R.Placed.place l.rows) (loads_of g.R.Placed.place l.rows) l.parent l.prefix l.date) l.index l.low l.high;
}

abbrev pub decreases-loop-low : goal.decreases-loop-low
decreases-loop-low g l = l.high - l.low
