use Rattle.dv_contents.proofs.Vocabulary.{take, ◌≡◌}
use Rattle.dv_contents.proofs.fronts.fronts.Given as goal

-- the first rows
abbrev pub invariant-loop-row : goal.invariant-loop-row
invariant-loop-row l = l.made.items ≡ take l.row-index l.rows
