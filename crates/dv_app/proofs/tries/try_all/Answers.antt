use Rattle.dv_app.proofs.Vocabulary.{err_from_is_err_and, ◌∙◌}
use Rattle.dv_app.proofs.TrySteps.{unreadied}
use Rattle.dv_app.proofs.tries.try_all.Goals as goal

pub returns-in_err-readied-clause-tries : goal.returns-in_err-readied-clause-tries
returns-in_err-readied-clause-tries g c =
    let p = err_from_is_err_and c.from_residual.result c.from_residual.ensures.1 in
    rw (p.1, p.2) (unreadied g.H.KeyDigest.function _ _ _ _ _ _ _ c.in_err-readied.ensures.reads)

pub try_readied-tried-requires-clause-readied : goal.try_readied-tried-requires-clause-readied
try_readied-tried-requires-clause-readied g c κs within = c.in_ok-readied.ensures.readied

pub returns-clause-tries : goal.returns-clause-tries
returns-clause-tries g c = c.try_readied-tried.ensures.tries _ c.in_ok-readied.ensures.reads c.in_ok-readied.ensures.reads.kept c.in_ok-readied.ensures.reads.later

pub returns-clause-kept : goal.returns-clause-kept
returns-clause-kept g c = c.try_readied-tried.ensures.leaves.kept ∙ c.in_ok-readied.ensures.reads.kept
