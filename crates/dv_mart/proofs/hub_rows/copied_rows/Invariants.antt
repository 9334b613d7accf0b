use Rattle.dv_mart.proofs.Vocabulary.{take, ◌≡◌}
use Rattle.dv_mart.proofs.hub_rows.copied_rows.Given as goal

abbrev pub invariant-loop-row : goal.invariant-loop-row
invariant-loop-row l = l.made ≡ take l.row-index l.rows
