use Rattle.dv_track.proofs.Vocabulary.{parents_of, take, vec_capacity, ◌++◌, ◌≡◌, ◌≤◌}
use Rattle.dv_track.proofs.presences.put_parents.Given as goal

-- the parents of the rows so far
abbrev pub invariant-loop-row : goal.invariant-loop-row
invariant-loop-row g l = record {
  items : l.parents.items ≡ l.initial.parents.items ++ parents_of g.R.Placed.place (take l.row-index l.rows);
  room : vec_capacity l.initial.parents ≤ vec_capacity l.parents;
}
