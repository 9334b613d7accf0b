use Rattle.dv_print.proofs.PartColumns.{one_numbered_more}
use Rattle.dv_print.proofs.columns.push_parts.Goals as goal

pub loop-n-preserved : goal.loop-n-preserved
loop-n-preserved c =
    one_numbered_more c.args.name.now c.loop-n.n c.args.header.now c.loop-n.header _ c.loop-n.invariant c.in_ok-push_numbered.ensures
