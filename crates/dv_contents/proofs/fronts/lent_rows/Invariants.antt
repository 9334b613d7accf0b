use Rattle.dv_contents.proofs.Vocabulary.{take, ◌≡◌}
use Rattle.dv_contents.proofs.fronts.lent_rows.Given as goal

-- the first rows
abbrev pub invariant-loop-front : goal.invariant-loop-front
invariant-loop-front l = l.made ≡ take l.front-index l.fronts
