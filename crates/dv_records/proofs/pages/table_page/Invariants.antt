use Rattle.dv_records.proofs.Vocabulary.{drop, rows_in, ◌≡◌}
use Rattle.dv_records.proofs.pages.table_page.Given as goal

-- no entry before is the table's
abbrev pub invariant-loop-entry : goal.invariant-loop-entry
invariant-loop-entry l = rows_in l.table (drop l.entry-index l.tables) ≡ rows_in l.table l.tables
