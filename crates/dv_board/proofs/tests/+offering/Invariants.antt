use Rattle.dv_board.proofs.Vocabulary.{◌*◌, ◌+◌}
use Rattle.dv_board.proofs.tests.+offering.Given as goal

abbrev pub decreases-offer_by : goal.decreases-offer_by
decreases-offer_by g l = 2 * l.workers

abbrev pub decreases-front : goal.decreases-front
decreases-front g l = 2 * l.half + 1

abbrev pub decreases-back : goal.decreases-back
decreases-back g l = 2 * l.rest + 1
