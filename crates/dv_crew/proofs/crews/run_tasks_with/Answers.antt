use Rattle.dv_crew.proofs.Vocabulary.{ap, once_below, rules, times, ◌∙◌}
use Rattle.dv_crew.proofs.Joining.{all_done}
use Rattle.dv_crew.proofs.crews.run_tasks_with.Goals as goal

pub laid_out-requires : goal.laid_out-requires
laid_out-requires g c =
    let worked = c.in_ok-worker.ensures.worked in (
      search rules,
      ((λ x. ap (times x) worked.drew ∙ (c.close.ensures.each_once x ∙ ap (once_below x) (c.close.ensures.all worked.ended ∙ c.in_ok-board.ensures.sizes.0))), worked.each),
    )

pub returns-clause-own : goal.returns-clause-own
returns-clause-own g c =
    let worked = c.in_ok-worker.ensures.worked in
    all_done (g.C.Carrier.has_done c.args.carrier.now) c.args.order c.args.tasks c.in_ok-worker.worker.own c.in_ok-worker.worker.seat.claims
    (λ x. c.close.ensures.each_once x ∙ ap (once_below x) (c.close.ensures.all worked.ended ∙ c.in_ok-board.ensures.sizes.0)) worked.did
