use Rattle.dv_contents.proofs.Vocabulary.{FeedDef, Some, filter_map, period_read, slice_get, take, ◌≡◌}
use Rattle.dv_contents.proofs.feed_periods.periods_read.Given as goal

-- the rows of the periods so far
abbrev pub invariant-loop-period : goal.invariant-loop-period
invariant-loop-period l =
    (definition : FeedDef) → slice_get l.lender.vault.now.mapping.feeds l.feed ≡ Some definition → l.rows.items ≡ filter_map (period_read l.lender.vault.now.mapping l.lender.vault.now.tables definition) (take l.period-index l.periods)
