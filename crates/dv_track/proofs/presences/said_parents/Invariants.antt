use Rattle.dv_track.proofs.Vocabulary.{Some, filter, map, parents_of, take, ◌≡◌}
use Rattle.dv_track.proofs.presences.said_parents.Given as goal

-- the parents of those rows so far
abbrev pub invariant-loop-row : goal.invariant-loop-row
invariant-loop-row g l = l.made.items ≡ parents_of g.R.Placed.place (filter (λ row. g.R.Telling.says (Some row)) (map (λ row. row.now) (take l.row-index l.rows)))
