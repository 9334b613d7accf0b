use Rattle.dv_app.proofs.Vocabulary.{err_from_is_err_and, refl}
use Rattle.dv_app.proofs.InitSteps.{fault_works, settled_works, unread_works}
use Rattle.dv_app.proofs.works.Work.init.Goals as goal

pub returns-in_err-file-clause-works : goal.returns-in_err-file-clause-works
returns-in_err-file-clause-works g c =
    let p = err_from_is_err_and c.from_residual.result c.from_residual.ensures.1 in
    rw (p.1, p.2) (unread_works _ _ (refl {a = g.K.Keeper.store c.args.self.now.keeper.now}) _ c.in_err-file.ensures.file (refl {a = g.K.Keeper.faults c.args.self.now.keeper.now}))

pub returns-in_err-answer-clause-works : goal.returns-in_err-answer-clause-works
returns-in_err-answer-clause-works g c =
    let p = err_from_is_err_and c.from_residual-in_err-answer.result c.from_residual-in_err-answer.ensures.1 in
    rw (p.1, p.2) (fault_works _ _ _ c.in_ok-file.ensures.file c.in_ok-file.ensures.reads _ c.in_err-answer.ensures)

pub returns-clause-works : goal.returns-clause-works
returns-clause-works g c = settled_works _ _ _ c.in_ok-file.ensures.file c.in_ok-file.ensures.reads _ c.in_ok-answer.ensures _ c.answered.ensures
