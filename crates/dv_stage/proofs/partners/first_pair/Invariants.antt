use Rattle.dv_stage.proofs.Vocabulary.{drop, first_pair, ◌-◌, ◌≡◌}
use Rattle.dv_stage.proofs.partners.first_pair.Given as goal

abbrev pub invariant-loop-i : goal.invariant-loop-i
invariant-loop-i l = first_pair (drop (l.i - 1) l.partners) ≡ first_pair l.partners
