use Rattle.dv_bridge.proofs.Vocabulary.{bare, is_whole, told_row}
use Rattle.dv_bridge.proofs.PathLinks.{links_more}
use Rattle.dv_bridge.proofs.lent_links.links_of.Goals as goal

pub loop-row-preserved : goal.loop-row-preserved
loop-row-preserved c =
    rw (c.in_ok-put_link.ensures, c.loop-row.invariant)
    (links_more told_row is_whole bare c.args.rows.now c.loop-row.row-index c.row-item.result c.loop-row-test.true c.row-item.is)
