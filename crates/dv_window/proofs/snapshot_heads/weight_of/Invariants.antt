use Rattle.dv_window.proofs.Vocabulary.{SnapTable, rows_weight, sum_by, take, ◌≡◌}
use Rattle.dv_window.proofs.snapshot_heads.weight_of.Given as goal

abbrev pub invariant-loop-table : goal.invariant-loop-table
invariant-loop-table l = l.sum ≡ sum_by (λ (table : SnapTable). rows_weight table.rows) (take l.table-index l.tables)
