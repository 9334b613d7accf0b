use Rattle.dv_crew.proofs.Vocabulary.{◌*◌, ◌+◌}
use Rattle.dv_crew.proofs.crews.+crew.Given as goal

abbrev pub decreases-run_crew : goal.decreases-run_crew
decreases-run_crew g l = 2 * l.workers

abbrev pub decreases-front : goal.decreases-front
decreases-front g l = 2 * l.low + 1

abbrev pub decreases-back : goal.decreases-back
decreases-back g l = 2 * l.high + 1
