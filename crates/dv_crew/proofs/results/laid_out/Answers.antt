use Rattle.dv_crew.proofs.Vocabulary.{AreResults, GivesWith, arith, counterpart, rules, subst, sym, ◌+◌, ◌<◌}
use Rattle.dv_crew.proofs.{Counting.counterpart_within, Counting.none_yet, Counting.one_task_more, Laying.one_more}
use Rattle.dv_crew.proofs.results.laid_out.Goals as goal

pub take_result-requires-clause-there : goal.take_result-requires-clause-there
take_result-requires-clause-there g c =
    let crew = c.args.crew.now in
    let under : c.tasks.task < crew.tasks = search rules in
    let left = c.tasks.invariant.left (counterpart crew.order crew.tasks c.tasks.task) (counterpart_within crew.order crew.tasks c.tasks.task under) in
    let none = none_yet crew.order crew.tasks c.tasks.task under in
    omega (arith, left, none)

pub tasks-preserved : goal.tasks-preserved
tasks-preserved g c =
    let crew = c.args.crew.now in
    let i = c.tasks.invariant in
    let gives = GivesWith (goal.F-post g crew.job.now) in
    let under : c.tasks.task < crew.tasks = search rules in record {
      left = λ x within.
          let was = i.left x within in
          let taken = c.take_result.ensures.left x in
          let more = one_task_more crew.order crew.tasks c.tasks.task x under within in
          omega (arith, was, taken, more);
      each = search rules;
      results = subst (AreResults gives (c.tasks.task + 1)) (sym c.in_ok-push.ensures.ok) (one_more gives c.tasks.task c.tasks.results c.take_result.result i.results c.take_result.ensures.given);
    }
