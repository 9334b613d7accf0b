use Rattle.dv_app.proofs.Vocabulary.{ap, arrival_of, ◌||◌}
use Rattle.dv_app.proofs.WindowSteps.{line_taken}
use Rattle.dv_app.proofs.loadings.take.Goals as goal

pub returns : goal.returns
returns g c = line_taken _ _ _ _ _ (arrival_of c.args.arrived) c.in_ok-taken.taken c.in_ok-taken.ensures (ap (λ b. c.args.loading.now.refused || b) c.is_refusal.ensures) c.in_ok-line.ensures
