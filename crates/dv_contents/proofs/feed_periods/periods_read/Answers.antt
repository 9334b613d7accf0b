use Rattle.dv_contents.proofs.Vocabulary.{period_read}
use Rattle.dv_contents.proofs.ContentFacts.{rows_more}
use Rattle.dv_contents.proofs.feed_periods.periods_read.Goals as goal

pub loop-period-preserved : goal.loop-period-preserved
loop-period-preserved c = λ definition got.
    rows_more (period_read c.args.lender.now.vault.now.mapping c.args.lender.now.vault.now.tables definition) c.args.periods.now c.loop-period.period-index c.period-item.result
    c.loop-period.rows.items c.add.new.rows.items c.in_ok-row.row c.loop-period-test.true c.period-item.is (c.loop-period.invariant definition got) (c.in_ok-row.ensures {u = tt} definition got) (c.in_ok-add.ensures {u = tt})
