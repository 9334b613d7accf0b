use Rattle.dv_bridge.proofs.Vocabulary.{KeyedRow, end_of, map, take, ◌≡◌}
use Rattle.dv_bridge.proofs.ways.first_ends.Given as goal

-- an end for each link so far
abbrev pub invariant-loop-link : goal.invariant-loop-link
invariant-loop-link l = map end_of l.ends ≡ map (λ (link : KeyedRow). (0, link)) (take l.link-index l.links)
