use Rattle.dv_hub_link.proofs.Vocabulary.{take, ◌≡◌}
use Rattle.dv_hub_link.proofs.copies.copied.Given as goal

-- the copies so far are the first keys
abbrev pub invariant-loop-key : goal.invariant-loop-key
invariant-loop-key l = l.made ≡ take l.key-index l.refs
