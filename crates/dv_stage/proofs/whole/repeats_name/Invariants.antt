use Rattle.dv_stage.proofs.Vocabulary.{drop, repeats_name, ◌-◌, ◌≡◌}
use Rattle.dv_stage.proofs.whole.repeats_name.Given as goal

abbrev pub invariant-loop-i : goal.invariant-loop-i
invariant-loop-i l = repeats_name (drop (l.i - 1) l.rows) ≡ repeats_name l.rows
