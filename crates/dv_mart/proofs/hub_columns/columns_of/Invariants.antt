use Rattle.dv_mart.proofs.Vocabulary.{column_of, column_told, map, take, ◌≡◌}
use Rattle.dv_mart.proofs.hub_columns.columns_of.Given as goal

-- the columns of the first contents
abbrev pub invariant-loop-one : goal.invariant-loop-one
invariant-loop-one l = map column_told l.columns.items ≡ map (column_of l.keys) (take l.one-index l.contents)
