use Rattle.dv_app.proofs.Vocabulary.{sum_by, table_count, take, ◌≡◌}
use Rattle.dv_app.proofs.counts.count_all.Given as goal

-- the rows of the tables so far
abbrev pub invariant-loop-table : goal.invariant-loop-table
invariant-loop-table l = l.count ≡ sum_by (table_count l.vault.tables) (take l.table-index l.ids)
