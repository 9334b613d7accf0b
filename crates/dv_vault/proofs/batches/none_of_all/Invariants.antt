use Rattle.dv_vault.proofs.Vocabulary.{TableRows, entry_of, map, no_rows, take, ◌≡◌}
use Rattle.dv_vault.proofs.batches.none_of_all.Given as goal

-- no rows for the tables so far
abbrev pub invariant-loop-table : goal.invariant-loop-table
invariant-loop-table l = l.made ≡ map (λ (entry : TableRows). no_rows entry.table) (map entry_of (take l.table-index l.tables))
