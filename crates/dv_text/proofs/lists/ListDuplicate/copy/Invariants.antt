use Rattle.dv_text.proofs.Vocabulary.{take, ◌≡◌}
use Rattle.dv_text.proofs.lists.ListDuplicate.copy.Given as goal

-- the copies so far are the first items
abbrev pub invariant-loop-item : goal.invariant-loop-item
invariant-loop-item g l = l.made ≡ take l.item-index l.item-items
