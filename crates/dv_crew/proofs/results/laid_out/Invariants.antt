use Rattle.dv_crew.proofs.Vocabulary.{AreDone, AreResults, GivesWith, counterpart, numbers, once_below, times, ℕ, ◌+◌, ◌<◌, ◌≡◌}
use Rattle.dv_crew.proofs.results.laid_out.Given as goal

abbrev pub invariant-tasks : goal.invariant-tasks
invariant-tasks g l = record {
  left : (x : ℕ) → x < l.crew.tasks → times x (numbers l.done.items) + once_below (counterpart l.crew.order l.crew.tasks x) l.task ≡ 1;
  each : AreDone (GivesWith (goal.F-post g l.crew.job.now)) l.crew.order l.crew.tasks l.done.items;
  results : AreResults (GivesWith (goal.F-post g l.crew.job.now)) l.task l.results;
}
