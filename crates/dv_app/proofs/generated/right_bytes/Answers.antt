use Rattle.dv_app.proofs.Vocabulary.{codes, right_line}
use Rattle.dv_app.proofs.GeneratedSteps.{numbered_part}
use Rattle.dv_app.proofs.generated.right_bytes.Goals as goal

pub loop-item-preserved : goal.loop-item-preserved
loop-item-preserved c = numbered_part right_line c.loop-item.item (codes "K,B\n") c.loop-item.bytes.items _ c.loop-item.invariant c.in_ok-push_right.ensures
