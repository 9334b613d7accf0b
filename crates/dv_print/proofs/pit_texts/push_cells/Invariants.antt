use Rattle.dv_print.proofs.Vocabulary.{[], flat_map, load_or_blank, take, yes_or_no, ◌++◌, ◌∷◌, ◌≡◌}
use Rattle.dv_print.proofs.pit_texts.push_cells.Given as goal

abbrev pub invariant-loop-cell : goal.invariant-loop-cell
invariant-loop-cell l = l.fields ≡ l.initial.fields ++ flat_map (λ cell. load_or_blank cell.load ∷ yes_or_no cell.present ∷ []) (take l.cell-index l.cells)
