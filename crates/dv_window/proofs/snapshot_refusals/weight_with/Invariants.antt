use Rattle.dv_window.proofs.Vocabulary.{heads_weight, take, ◌≡◌}
use Rattle.dv_window.proofs.snapshot_refusals.weight_with.Given as goal

abbrev pub invariant-loop-stored : goal.invariant-loop-stored
invariant-loop-stored l = l.sum ≡ heads_weight (take l.stored-index l.heads)
