use Rattle.dv_window.proofs.Vocabulary.{SnapTable, row_count, sum_by, take, ◌≡◌}
use Rattle.dv_window.proofs.snapshot_heads.count_all.Given as goal

abbrev pub invariant-loop-table : goal.invariant-loop-table
invariant-loop-table l = l.rows ≡ sum_by (λ (table : SnapTable). row_count table.rows) (take l.table-index l.tables)
