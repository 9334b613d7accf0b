use Rattle.dv_bridge.proofs.Vocabulary.{length}
use Rattle.dv_bridge.proofs.ways.+put_links.Given as goal

abbrev pub decreases-put_links : goal.decreases-put_links
decreases-put_links l = length l.steps.now
