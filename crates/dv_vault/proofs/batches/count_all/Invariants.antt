use Rattle.dv_vault.proofs.Vocabulary.{row_count, sum_by, take, ◌≡◌}
use Rattle.dv_vault.proofs.batches.count_all.Given as goal

abbrev pub invariant-loop-batch : goal.invariant-loop-batch
invariant-loop-batch l = l.rows ≡ sum_by row_count (take l.batch-index l.batches)
