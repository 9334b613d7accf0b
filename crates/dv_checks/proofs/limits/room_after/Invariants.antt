use Rattle.dv_checks.proofs.Vocabulary.{length, sum_by, take, ◌+◌, ◌≡◌}
use Rattle.dv_checks.proofs.limits.room_after.Given as goal

abbrev pub invariant-loop-columns : goal.invariant-loop-columns
invariant-loop-columns l = l.room + sum_by length (take l.columns-index l.keys) ≡ l.most
