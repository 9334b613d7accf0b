use Rattle.dv_app.proofs.Vocabulary.{err_from_is_err_and}
use Rattle.dv_app.proofs.LoadSteps.{load_works, unbrought_works}
use Rattle.dv_app.proofs.works.Work.load.Goals as goal

pub returns-in_err-arrived-clause-works : goal.returns-in_err-arrived-clause-works
returns-in_err-arrived-clause-works g c =
    let p = err_from_is_err_and c.from_residual.result c.from_residual.ensures.1 in
    rw (p.1, p.2) (λ told before opening. unbrought_works _ _ _ _ opening _ c.in_err-arrived.ensures)

pub give-answer-requires-clause-agrees : goal.give-answer-requires-clause-agrees
give-answer-requires-clause-agrees g c = λ lifetimes outlive fresh. c.requires.open.agrees

pub give-answer-requires-clause-fresh : goal.give-answer-requires-clause-fresh
give-answer-requires-clause-fresh g c = λ lifetimes outlive. c.requires.open.fresh

pub returns-clause-works : goal.returns-clause-works
returns-clause-works g c = λ told before opening. load_works _ _ _ _ _ _ opening _ c.in_ok-arrived.ensures _ c.give-answer.ensures _ c.answered.ensures
