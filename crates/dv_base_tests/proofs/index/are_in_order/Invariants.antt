use Rattle.dv_index.proofs.Vocabulary.{◌≡◌, length, are_in_load_order}
use Rattle.dv_base_tests.proofs.index.are_in_order.Given as goal

-- the rows before are in order with all behind them
abbrev pub invariant-loop-row : goal.invariant-loop-row
invariant-loop-row g l = are_in_load_order g.R.Placed.place l.left ≡ are_in_load_order g.R.Placed.place l.rows

abbrev pub decreases-loop-row : goal.decreases-loop-row
decreases-loop-row g l = length l.left
