use Rattle.dv_restore.proofs.Vocabulary.{rows_weight, sum_by, take, ◌+◌, ◌≡◌}
use Rattle.dv_restore.proofs.parts.weight_without.Given as goal

abbrev pub invariant-loop-rows : goal.invariant-loop-rows
invariant-loop-rows l = l.left + sum_by rows_weight (take l.rows-index l.opened) ≡ l.weight_before
