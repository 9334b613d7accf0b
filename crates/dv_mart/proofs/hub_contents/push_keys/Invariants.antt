use Rattle.dv_mart.proofs.Vocabulary.{flat_map, take, ◌++◌, ◌≡◌}
use Rattle.dv_mart.proofs.hub_contents.push_keys.Given as goal

abbrev pub invariant-loop-row : goal.invariant-loop-row
invariant-loop-row l = l.keys.items ≡ l.initial.keys.items ++ flat_map (λ row. row.refs) (take l.row-index l.rows)
