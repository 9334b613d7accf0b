use Rattle.dv_pit.proofs.Vocabulary.{map, plain_cell, take, with_cell, ◌≡◌}
use Rattle.dv_pit.proofs.cells.with_plain.Given as goal

-- the rows so far have their cells
abbrev pub invariant-loop-row : goal.invariant-loop-row
invariant-loop-row l = l.made ≡ map (with_cell (plain_cell l.sat.rows l.status.rows l.date)) (take l.row-index l.rows)
