use Rattle.dv_contents.proofs.Vocabulary.{FeedDef, Some, flat_map, rows_read, slice_get, take, ◌≡◌}
use Rattle.dv_contents.proofs.multi_contents.multi_rows_read.Given as goal

-- the rows of the parents so far
abbrev pub invariant-loop-parent : goal.invariant-loop-parent
invariant-loop-parent l =
    (definition : FeedDef) → slice_get l.lender.vault.now.mapping.feeds l.feed ≡ Some definition
    → l.rows.items ≡ flat_map (rows_read l.lender.vault.now.mapping l.lender.vault.now.tables definition l.feed l.date) (take l.parent-index l.parents)
