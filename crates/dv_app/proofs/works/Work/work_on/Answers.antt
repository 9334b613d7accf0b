use Rattle.dv_app.proofs.Vocabulary.{refl}
use Rattle.dv_app.proofs.QuerySteps.{text_works}
use Rattle.dv_app.proofs.works.Work.work_on.Goals as goal

pub returns-in-Load-clause-works : goal.returns-in-Load-clause-works
returns-in-Load-clause-works g c = rw c.in-Load.is c.load.ensures.works

pub returns-in-Resume-clause-works : goal.returns-in-Resume-clause-works
returns-in-Resume-clause-works g c = rw c.in-Resume.is c.resume.ensures.works

pub returns-in-Mart-clause-works : goal.returns-in-Mart-clause-works
returns-in-Mart-clause-works g c = rw (c.in-Mart.is, c.text_reply.ensures)
    (λ told before opening. text_works _ tt _ _ (refl {a = g.F.Folder.files c.args.self.now.folder.now}) (refl {a = g.F.Folder.faults c.args.self.now.folder.now}) _ opening _ c.mart_of.ensures)

pub returns-in-Table-clause-works : goal.returns-in-Table-clause-works
returns-in-Table-clause-works g c = rw (c.in-Table.is, c.text_reply-in-Table.ensures)
    (λ told before opening. text_works _ tt _ _ (refl {a = g.F.Folder.files c.args.self.now.folder.now}) (refl {a = g.F.Folder.faults c.args.self.now.folder.now}) _ opening _ c.table_of.ensures)

pub returns-in-Windows-clause-works : goal.returns-in-Windows-clause-works
returns-in-Windows-clause-works g c = rw (c.in-Windows.is, c.text_reply-in-Windows.ensures)
    (λ told before opening. text_works _ tt _ _ (refl {a = g.F.Folder.files c.args.self.now.folder.now}) (refl {a = g.F.Folder.faults c.args.self.now.folder.now}) _ opening _ c.windows_of.ensures)

pub returns-in-Snapshot-clause-works : goal.returns-in-Snapshot-clause-works
returns-in-Snapshot-clause-works g c = rw c.in-Snapshot.is c.snapshot.ensures.works

pub returns-in-Stored-clause-works : goal.returns-in-Stored-clause-works
returns-in-Stored-clause-works g c = rw c.in-Stored.is c.stored.ensures.works
