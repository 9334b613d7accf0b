use Rattle.dv_bridge.proofs.Vocabulary.{KeyedRow, first_row, map, take, ◌≡◌}
use Rattle.dv_bridge.proofs.joins.rows_of.Given as goal

-- a row for each link so far
abbrev pub invariant-loop-link : goal.invariant-loop-link
invariant-loop-link l = l.rows ≡ map (λ (link : KeyedRow). first_row link.row) (take l.link-index l.links)
