use Rattle.dv_print.proofs.Vocabulary.{flat_map, take, ◌++◌, ◌≡◌}
use Rattle.dv_print.proofs.fields.Fields.push_columns.Given as goal

abbrev pub invariant-loop-columns : goal.invariant-loop-columns
invariant-loop-columns l = l.self ≡ l.initial.self ++ flat_map (λ columns. columns) (take l.columns-index l.keys)
