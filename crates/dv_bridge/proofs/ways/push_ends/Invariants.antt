use Rattle.dv_bridge.proofs.Vocabulary.{KeyedLink, end_of, map, take, ◌++◌, ◌≡◌}
use Rattle.dv_bridge.proofs.ways.push_ends.Given as goal

-- the ends with the links so far stand behind those that there were
abbrev pub invariant-loop-one : goal.invariant-loop-one
invariant-loop-one l = map end_of l.ends ≡ map end_of l.initial.ends ++ map (λ (one : KeyedLink). (l.before, one.link.now)) (take l.one-index l.links)
