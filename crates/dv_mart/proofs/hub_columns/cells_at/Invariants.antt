use Rattle.dv_mart.proofs.Vocabulary.{cell_at, map, take, ◌≡◌}
use Rattle.dv_mart.proofs.hub_columns.cells_at.Given as goal

abbrev pub invariant-loop-column : goal.invariant-loop-column
invariant-loop-column l = l.cells ≡ map (cell_at l.fn.place) (take l.column-index l.columns)
