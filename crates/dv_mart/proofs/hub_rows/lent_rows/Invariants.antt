use Rattle.dv_mart.proofs.Vocabulary.{drop, enumerate_from, lent_row, lent_rows, map, ◌++◌, ◌≡◌}
use Rattle.dv_mart.proofs.hub_rows.lent_rows.Given as goal

-- the rows so far and those of the keys behind them are all
abbrev pub invariant-loop-place : goal.invariant-loop-place
invariant-loop-place l = l.rows.items ++ map (λ (place, key). lent_row key l.columns place) (enumerate_from l.place (drop l.place l.keys)) ≡ lent_rows l.columns l.keys
