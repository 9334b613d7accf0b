use Rattle.dv_catalog.proofs.Vocabulary.{Link}
use Rattle.dv_catalog.proofs.TableSteps.{numbered_more}
use Rattle.dv_catalog.proofs.table_lists.add_links.Goals as goal

pub loop-n-preserved : goal.loop-n-preserved
loop-n-preserved c = numbered_more (λ n. Link n) c.loop-n.n c.args.tables.now c.loop-n.tables _ c.loop-n.invariant c.in_ok-push.ensures.ok
