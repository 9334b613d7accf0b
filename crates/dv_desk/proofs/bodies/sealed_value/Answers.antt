use Rattle.dv_desk.proofs.Vocabulary.{head_data, refl}
use Rattle.dv_desk.proofs.Listed.{all_listed, one_more}
use Rattle.dv_desk.proofs.bodies.sealed_value.Goals as goal

pub loop-head-init : goal.loop-head-init
loop-head-init c = rw c.in_ok-heads.ensures.items refl

pub loop-head-preserved : goal.loop-head-preserved
loop-head-preserved c = one_more (head_data c.args.catalog.now) c.args.sealed.now c.loop-head.head-index c.head-item.result c.head-item.result c.loop-head-test.true c.head-item.is
    c.loop-head.heads.items _ _ c.in_ok-push.ensures.items c.in_ok-head_value.ensures c.loop-head.invariant

pub returns : goal.returns
returns c = all_listed (head_data c.args.catalog.now) c.args.sealed.now c.loop-head.head-index c.loop-head.heads c.loop-head-test.false c.loop-head.invariant
