use Rattle.dv_restore.proofs.Vocabulary.{AreNamed, entry_of, map, take}
use Rattle.dv_restore.proofs.completions.has_misnamed.Given as goal

-- no other key stands there in the tables so far
abbrev pub invariant-loop-table : goal.invariant-loop-table
invariant-loop-table l = AreNamed l.catalog l.d (take l.table-index (map entry_of l.tables))
