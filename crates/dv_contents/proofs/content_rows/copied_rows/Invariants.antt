use Rattle.dv_contents.proofs.Vocabulary.{take, ◌≡◌}
use Rattle.dv_contents.proofs.content_rows.copied_rows.Given as goal

-- the copies of the first rows
abbrev pub invariant-loop-row : goal.invariant-loop-row
invariant-loop-row l = l.made ≡ take l.row-index l.row-items
