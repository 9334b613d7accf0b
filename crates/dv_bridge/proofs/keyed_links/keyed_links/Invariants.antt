use Rattle.dv_bridge.proofs.Vocabulary.{filter_map, keyed_at, keyed_row, map, take, ◌≡◌}
use Rattle.dv_bridge.proofs.keyed_links.keyed_links.Given as goal

-- the links so far
abbrev pub invariant-loop-link : goal.invariant-loop-link
invariant-loop-link l = map keyed_row l.made.items ≡ filter_map (keyed_at l.place) (take l.link-index l.links)
