use Rattle.dv_mart.proofs.Vocabulary.{drop, map, option_map, ◌++◌, ◌≡◌}
use Rattle.dv_mart.proofs.HubColumns.{walked}
use Rattle.dv_mart.proofs.hub_columns.rows_beside.Given as goal

-- the rows so far and those that are found behind them are all
abbrev pub invariant-loop-key : goal.invariant-loop-key
invariant-loop-key l = map (option_map (λ row. row.now)) l.found.items ++ walked l.rest (drop l.key-index l.keys) ≡ walked l.rows l.keys
