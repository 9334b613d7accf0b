use Rattle.dv_contents.proofs.Vocabulary.{take, ◌≡◌}
use Rattle.dv_contents.proofs.content_rows.lent_again.Given as goal

-- the first keys
abbrev pub invariant-loop-key : goal.invariant-loop-key
invariant-loop-key l = l.made ≡ take l.key-index l.key-items
