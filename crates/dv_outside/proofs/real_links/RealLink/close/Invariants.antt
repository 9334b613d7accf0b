use Rattle.dv_outside.proofs.Vocabulary.{◌-◌}
use Rattle.dv_outside.proofs.real_links.RealLink.close.Given as goal

abbrev pub decreases-loop-dropped : goal.decreases-loop-dropped
decreases-loop-dropped g l = 268_435_456 - l.dropped
