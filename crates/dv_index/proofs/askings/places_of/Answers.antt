use Rattle.dv_index.proofs.Vocabulary.{arith, map_push, refl, ◌+◌}
use Rattle.dv_index.proofs.Ranges.{range_more}
use Rattle.dv_index.proofs.askings.places_of.Goals as goal

pub loop-number-preserved : goal.loop-number-preserved
loop-number-preserved c =
    let more = range_more 0 c.loop-number.number (c.loop-number.number + 1) c.loop-number.number (omega arith) (omega arith) in
    rw (c.in_ok-push.ensures.items, map_push, c.loop-number.invariant, more) refl
