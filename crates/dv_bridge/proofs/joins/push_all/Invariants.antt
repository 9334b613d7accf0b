use Rattle.dv_bridge.proofs.Vocabulary.{take, ◌++◌, ◌≡◌}
use Rattle.dv_bridge.proofs.joins.push_all.Given as goal

-- the first keys stand behind those that there were
abbrev pub invariant-loop-key : goal.invariant-loop-key
invariant-loop-key l = l.keys ≡ l.initial.keys ++ take l.key-index l.more
