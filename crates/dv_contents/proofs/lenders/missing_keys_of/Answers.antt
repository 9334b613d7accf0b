use Rattle.dv_contents.proofs.Vocabulary.{arith}
use Rattle.dv_contents.proofs.ContentFacts.{missing_more}
use Rattle.dv_contents.proofs.lenders.missing_keys_of.Goals as goal

pub loop-hub-preserved : goal.loop-hub-preserved
loop-hub-preserved c = (
  missing_more c.args.catalog.now c.loop-hub.hub c.loop-hub.keys c.push.new.self _ c.loop-hub.invariant.0 (c.in_ok-missing_key.ensures {u = tt}) (c.in_ok-push.ensures {u = tt}).ok,
  omega (arith, c.loop-hub-test.true),
)
