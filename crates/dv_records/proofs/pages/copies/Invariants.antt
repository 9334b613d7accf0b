use Rattle.dv_records.proofs.Vocabulary.{take, ◌≡◌}
use Rattle.dv_records.proofs.pages.copies.Given as goal

-- the copies so far are the first items
abbrev pub invariant-loop-item : goal.invariant-loop-item
invariant-loop-item g l = l.made ≡ take l.item-index l.items
