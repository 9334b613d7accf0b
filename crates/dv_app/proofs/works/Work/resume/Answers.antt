use Rattle.dv_app.proofs.Vocabulary.{refl}
use Rattle.dv_app.proofs.LoadSteps.{resume_works}
use Rattle.dv_app.proofs.works.Work.resume.Goals as goal

pub resume-answer-requires-after_bounds : goal.resume-answer-requires-after_bounds
resume-answer-requires-after_bounds g c = λ lifetimes outlive fresh. c.requires.open.agrees

pub returns-clause-works : goal.returns-clause-works
returns-clause-works g c = λ told before opening.
    resume_works _ _ (refl {a = g.F.Folder.files c.args.self.now.folder.now}) (refl {a = g.F.Folder.faults c.args.self.now.folder.now}) _ _ _ opening c.resume-answer.result c.resume-answer.new.self
    c.resume-answer.ensures.step c.resume-answer.ensures.mapping c.resume-answer.ensures.store c.resume-answer.ensures.stale c.resume-answer.ensures.cause c.resume-answer.ensures.later _ c.answered.ensures
