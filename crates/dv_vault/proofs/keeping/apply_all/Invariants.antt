use Rattle.dv_vault.proofs.Vocabulary.{length, opened_in}
use Rattle.dv_vault.proofs.BatchSteps.{IsUnder}
use Rattle.dv_vault.proofs.keeping.apply_all.Given as goal

-- the tables so far have their rows, and the others have room for theirs
abbrev pub invariant-loop-table : goal.invariant-loop-table
invariant-loop-table l = IsUnder l.fn.tables (opened_in l.fn.parts.items) l.tables l.table-index (opened_in l.parts.items) (length l.parts.items)
