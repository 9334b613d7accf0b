use Rattle.dv_vault.proofs.Vocabulary.{rows_weight, sum_by, take, ◌+◌, ◌≡◌}
use Rattle.dv_vault.proofs.batches.weight_with.Given as goal

abbrev pub invariant-loop-batch : goal.invariant-loop-batch
invariant-loop-batch l = l.sum ≡ l.weight_before + sum_by rows_weight (take l.batch-index l.batches)
