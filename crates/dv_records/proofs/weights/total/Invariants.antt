use Rattle.dv_records.proofs.Vocabulary.{min, sum_by, take, ◌-◌, ◌^◌, ◌≡◌}
use Rattle.dv_records.proofs.weights.total.Given as goal

abbrev pub invariant-loop-item : goal.invariant-loop-item
invariant-loop-item g l = l.sum ≡ min (sum_by g.T.Weighed.weight_of (take l.item-index l.items)) (2 ^ 128 - 1)
