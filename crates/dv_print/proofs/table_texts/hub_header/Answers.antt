use Rattle.dv_print.proofs.PartColumns.{one_part_more}
use Rattle.dv_print.proofs.table_texts.hub_header.Goals as goal

pub loop-n-preserved : goal.loop-n-preserved
loop-n-preserved c = one_part_more c.loop-n.n c.loop-n.header _ c.loop-n.invariant c.in_ok-push_part.ensures
