use Rattle.dv_app.proofs.Vocabulary.{err_from_is_err_and, refl}
use Rattle.dv_app.proofs.OpenSteps.{office_opens, open_then, shut_works}
use Rattle.dv_app.proofs.works.Work.work_by_office.Goals as goal

pub returns-in_err-office-clause-works : goal.returns-in_err-office-clause-works
returns-in_err-office-clause-works g c =
    let p = err_from_is_err_and c.from_residual.result c.from_residual.ensures.1 in
    rw (p.1, p.2) (shut_works _ (office_opens c.args.command.now) _ _ (refl {a = g.F.Folder.files c.args.self.now.folder.now}) (refl {a = g.F.Folder.faults c.args.self.now.folder.now}) _ c.in_err-office.ensures)

pub work_on-came-requires-clause-open : goal.work_on-came-requires-clause-open
work_on-came-requires-clause-open g c = λ lifetimes outlive. open_then _ _ _ c.in_ok-office.ensures

pub returns-clause-works : goal.returns-clause-works
returns-clause-works g c = c.work_on-came.ensures.works _ _ c.in_ok-office.ensures
