use Rattle.dv_mart.proofs.Vocabulary.{take, ◌≡◌}
use Rattle.dv_mart.proofs.hub_columns.copied.Given as goal

abbrev pub invariant-loop-text : goal.invariant-loop-text
invariant-loop-text l = l.made ≡ take l.text-index l.texts
