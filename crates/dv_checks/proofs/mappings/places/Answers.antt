use Rattle.dv_checks.proofs.Vocabulary.{mapped_more}
use Rattle.dv_checks.proofs.mappings.places.Goals as goal

pub loop-name-preserved : goal.loop-name-preserved
loop-name-preserved g c = mapped_more _ c.args.names.now c.loop-name.name-index _ _ c.loop-name.places _ c.loop-name-test.true c.name-item.is c.place_of.ensures c.loop-name.invariant c.in_ok-push.ensures.ok
