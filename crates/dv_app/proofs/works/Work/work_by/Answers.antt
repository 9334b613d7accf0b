use Rattle.dv_app.proofs.works.Work.work_by.Goals as goal

pub returns-in-Init-clause-works : goal.returns-in-Init-clause-works
returns-in-Init-clause-works g c = rw c.in-Init.is c.init.ensures.works

pub returns-in-OnOffice-clause-works : goal.returns-in-OnOffice-clause-works
returns-in-OnOffice-clause-works g c = rw c.in-OnOffice.is c.work_by_office.ensures.works
