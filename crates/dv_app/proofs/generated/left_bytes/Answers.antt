use Rattle.dv_app.proofs.Vocabulary.{codes, left_line}
use Rattle.dv_app.proofs.GeneratedSteps.{numbered_part}
use Rattle.dv_app.proofs.generated.left_bytes.Goals as goal

pub loop-item-preserved : goal.loop-item-preserved
loop-item-preserved c = numbered_part (left_line c.args.window) c.loop-item.item (codes "K,A\n") c.loop-item.bytes.items _ c.loop-item.invariant c.in_ok-push_left.ensures
