use Rattle.dv_contents.proofs.Vocabulary.{refl, rows_read}
use Rattle.dv_contents.proofs.ContentFacts.{all_more}
use Rattle.dv_contents.proofs.multi_contents.multi_rows_read.Goals as goal

pub loop-parent-preserved : goal.loop-parent-preserved
loop-parent-preserved c = λ definition got.
    all_more (rows_read c.args.lender.now.vault.now.mapping c.args.lender.now.vault.now.tables definition c.args.feed c.args.date) c.args.parents.now c.loop-parent.parent-index c.parent-item.result
    c.loop-parent.rows.items c.add_parent.new.rows.items _ c.loop-parent-test.true c.parent-item.is (c.loop-parent.invariant definition got) refl (c.in_ok-add_parent.ensures {u = tt} definition got)
