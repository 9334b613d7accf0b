use Rattle.dv_mart.proofs.Vocabulary.{map, take, ◌++◌, ◌≡◌}
use Rattle.dv_mart.proofs.hub_contents.push_lent.Given as goal

abbrev pub invariant-loop-key : goal.invariant-loop-key
invariant-loop-key l = l.keys.items ≡ l.initial.keys.items ++ map (λ key. key.now) (take l.key-index l.lent)
