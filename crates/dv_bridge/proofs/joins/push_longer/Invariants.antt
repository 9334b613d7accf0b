use Rattle.dv_bridge.proofs.Vocabulary.{map, row_with, take, ◌++◌, ◌≡◌}
use Rattle.dv_bridge.proofs.joins.push_longer.Given as goal

-- the rows with the links so far stand behind those that there were
abbrev pub invariant-loop-one : goal.invariant-loop-one
invariant-loop-one l = l.made ≡ l.initial.made ++ map (row_with l.row) (take l.one-index l.links)
