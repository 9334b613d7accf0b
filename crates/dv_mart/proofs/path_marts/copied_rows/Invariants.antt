use Rattle.dv_mart.proofs.Vocabulary.{KeyedRow, List, map, path_row, steps_along, take, ◌≡◌}
use Rattle.dv_mart.proofs.path_marts.copied_rows.Given as goal

-- the rows of the first ways
abbrev pub invariant-loop-number : goal.invariant-loop-number
invariant-loop-number l = l.rows ≡ map (λ (way : List KeyedRow). path_row (steps_along way)) (take l.number l.ways)
