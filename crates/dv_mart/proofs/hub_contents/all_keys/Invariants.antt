use Rattle.dv_mart.proofs.Vocabulary.{keys_of, take, ◌≡◌}
use Rattle.dv_mart.proofs.hub_contents.all_keys.Given as goal

abbrev pub invariant-loop-one : goal.invariant-loop-one
invariant-loop-one l = l.keys.items ≡ keys_of (take l.one-index l.contents)
