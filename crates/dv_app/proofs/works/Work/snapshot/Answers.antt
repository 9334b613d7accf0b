use Rattle.dv_app.proofs.Vocabulary.{Tells, err_from_is_err_and, refl, snapshot_said, subst, ◌∙◌}
use Rattle.dv_app.proofs.SnapshotSteps.{snapshot_works, undated_works}
use Rattle.dv_app.proofs.works.Work.snapshot.Goals as goal

pub returns-in_err-date-clause-works : goal.returns-in_err-date-clause-works
returns-in_err-date-clause-works g c =
    let p = err_from_is_err_and c.from_residual.result c.from_residual.ensures.1 in
    rw (p.1, p.2) (λ told before opening. undated_works _ _ _ (refl {a = g.F.Folder.files c.args.self.now.folder.now}) (refl {a = g.F.Folder.faults c.args.self.now.folder.now}) _ opening _ c.in_err-date.ensures.ends)

pub snapshot-answer-requires-clause-agrees : goal.snapshot-answer-requires-clause-agrees
snapshot-answer-requires-clause-agrees g c = λ fresh. c.requires.open.agrees

pub snapshot-answer-requires-clause-fresh : goal.snapshot-answer-requires-clause-fresh
snapshot-answer-requires-clause-fresh g c = c.requires.open.fresh

pub returns-clause-works : goal.returns-clause-works
returns-clause-works g c = λ told before opening.
    snapshot_works _ _ _ (refl {a = g.F.Folder.files c.args.self.now.folder.now}) (refl {a = g.F.Folder.faults c.args.self.now.folder.now}) _ _ _ opening _ c.in_ok-date.ensures.ok c.snapshot-answer.result
    c.snapshot-answer.new.office c.snapshot-answer.ensures.step c.snapshot-answer.ensures.mapping c.snapshot-answer.ensures.kept c.snapshot-answer.ensures.cause c.snapshot-answer.ensures.later _
    (subst (λ m. Tells (snapshot_said m c.snapshot-answer.result) c.answered.result) (c.catalog.ensures.value ∙ c.snapshot-answer.ensures.mapping) c.answered.ensures)
