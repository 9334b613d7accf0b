use Rattle.dv_mart.proofs.Vocabulary.{cell_at, flat_map, map, take, yes_or_no, ◌++◌, ◌∷◌, ◌≡◌}
use Rattle.dv_mart.proofs.hub_columns.push_cells.Given as goal

abbrev pub invariant-loop-column : goal.invariant-loop-column
invariant-loop-column l =
    l.fields ≡ l.initial.fields ++ flat_map (λ cell. yes_or_no cell.present ∷ cell.attrs) (map (cell_at l.place) (take l.column-index l.columns))
