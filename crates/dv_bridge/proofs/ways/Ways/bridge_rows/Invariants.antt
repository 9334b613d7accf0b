use Rattle.dv_bridge.proofs.Vocabulary.{map, row_along, take, ◌≡◌}
use Rattle.dv_bridge.proofs.ways.Ways.bridge_rows.Given as goal

-- the rows of the ways so far
abbrev pub invariant-loop-number : goal.invariant-loop-number
invariant-loop-number l = l.rows ≡ map row_along (take l.number l.self)
