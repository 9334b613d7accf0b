use Rattle.dv_app.proofs.Vocabulary.{err_from_is_err_and, seen, ◌∙◌}
use Rattle.dv_app.proofs.OpenSteps.{unstarted}
use Rattle.dv_app.proofs.openings.open_office.Goals as goal

pub returns-in_err-start : goal.returns-in_err-start
returns-in_err-start g c =
    let p = err_from_is_err_and c.from_residual.result c.from_residual.ensures.1 in
    record {
      opens = rw (p.1, p.2) (unstarted g.H.KeyDigest.function (seen g.K.Keeper.store g.K.Keeper.faults c.args.keeper.now c.start.new.keeper) _ c.in_err-start.ensures.none c.in_err-start.ensures.damaged
          c.in_err-start.ensures.undamaged c.in_err-start.ensures.formed c.in_err-start.ensures.cause);
      left = c.in_err-start.ensures.store;
      later = c.in_err-start.ensures.later;
    }

pub returns : goal.returns
returns g c =
    record {
      opens = record {
        opened = λ s told. record { mapped = (c.in_ok-start.ensures.agrees s (c.in_ok-start.ensures.store ∙ told)).mapped; in_form = c.in_ok-start.ensures.in_form s told };
        agrees = λ s told. c.in_ok-start.ensures.agrees s (c.in_ok-start.ensures.store ∙ told);
        fresh = c.in_ok-start.ensures.fresh;
        width_is = c.in_ok-start.ensures.width;
        stands = λ s told state stands. c.in_ok-start.ensures.stands state s told stands;
      };
      left = c.in_ok-start.ensures.store;
      later = c.in_ok-start.ensures.later;
    }
