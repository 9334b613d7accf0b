use Rattle.dv_records.proofs.Vocabulary.{drop, rows_of_snap, ◌≡◌}
use Rattle.dv_records.proofs.stored_snapshots.table_page.Given as goal

-- no entry before is the table's
abbrev pub invariant-loop-entry : goal.invariant-loop-entry
invariant-loop-entry l = rows_of_snap l.id (drop l.entry-index l.tables) ≡ rows_of_snap l.id l.tables
