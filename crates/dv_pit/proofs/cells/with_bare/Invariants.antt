use Rattle.dv_pit.proofs.Vocabulary.{bare_cell, map, take, with_cell, ◌≡◌}
use Rattle.dv_pit.proofs.cells.with_bare.Given as goal

-- the rows so far have their cells
abbrev pub invariant-loop-row : goal.invariant-loop-row
invariant-loop-row l = l.made ≡ map (with_cell (bare_cell l.status.rows l.date)) (take l.row-index l.rows)
