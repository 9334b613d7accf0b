use Rattle.dv_crew.proofs.Vocabulary.{GivesWith, IfOk-at_ok, arith, tasks_drawn, ◌+◌}
use Rattle.dv_crew.proofs.Joining.{both_worked}
use Rattle.dv_crew.proofs.crews.+crew.Goals as goal

pub returns-clause-worked : goal.returns-clause-worked
returns-clause-worked g n c =
    let crew = c.args.crew.now in
    let some = c.requires.some in
    let one = c.in_ok-worker.worker in
    let other = c.in_ok-other.other in
    let of_one = IfOk-at_ok _ c.in_ok-worker.was c.join-front.ensures.second in
    let of_other = IfOk-at_ok _ c.in_ok-other.was c.join-front.ensures.first in
    both_worked (g.C.Carrier.has_done crew.carrier.now) (GivesWith (goal.F-post g crew.job.now)) crew.order crew.tasks c.args.board.now _ _ c.args.workers one other
    (record { seat = c.join.new.seat; own = c.join-2.new.own }) c.in_ok-worker.rest.items c.in_ok-other.done.items _ (omega (arith, some)) of_one.0 of_other.0 c.join.ensures.both c.in_ok-append.ensures.items
    (c.join-2.ensures.both (tasks_drawn crew.order crew.tasks one.seat.claims) (tasks_drawn crew.order crew.tasks other.seat.claims) of_one.0.did of_other.0.did)
