use Rattle.dv_app.proofs.Vocabulary.{StoredEnds, ap, err_from_is_err_and, no_fault, refl, stored_id, stored_of, subst, sym, ◌∙◌}
use Rattle.dv_app.proofs.StoredSteps.{faulted_works, stored_works, undated_works, unknown_works}
use Rattle.dv_window.specs.declared.stored.StoredFault.TheVariants as stored
use Rattle.dv_app.proofs.works.Work.stored.Goals as goal

pub returns-in_err-id-clause-works : goal.returns-in_err-id-clause-works
returns-in_err-id-clause-works g c =
    let p = err_from_is_err_and c.from_residual.result c.from_residual.ensures.1 in
    rw (p.1, p.2) (λ told before opening. unknown_works _ _ _ _ (refl {a = g.F.Folder.files c.args.self.now.folder.now}) (refl {a = g.F.Folder.faults c.args.self.now.folder.now}) _ opening _
    (subst (λ m. StoredEnds m (stored_of c.args.table.now) c.in_err-id.field-0.0) c.catalog.ensures.value c.in_err-id.ensures.ends))

pub returns-in_err-date-clause-works : goal.returns-in_err-date-clause-works
returns-in_err-date-clause-works g c =
    let p = err_from_is_err_and c.from_residual-in_err-date.result c.from_residual-in_err-date.ensures.1 in
    rw (p.1, p.2) (λ told before opening. undated_works _ _ _ _ (refl {a = g.F.Folder.files c.args.self.now.folder.now}) (refl {a = g.F.Folder.faults c.args.self.now.folder.now}) _ opening c.in_ok-id.id
    (ap (λ m. stored_id m (stored_of c.args.table.now)) (sym c.catalog.ensures.value) ∙ c.in_ok-id.ensures.ok) _ c.in_err-date.ensures.ends)

pub stored_text-requires-clause-fresh : goal.stored_text-requires-clause-fresh
stored_text-requires-clause-fresh g c = c.requires.open.fresh

pub returns-in-Ok-clause-works : goal.returns-in-Ok-clause-works
returns-in-Ok-clause-works g c = λ told before opening. stored_works _ _ _ _ (refl {a = g.F.Folder.files c.args.self.now.folder.now}) (refl {a = g.F.Folder.faults c.args.self.now.folder.now}) _ _ _ opening c.in-Ok.ensures.kept c.in-Ok.ensures.later c.in_ok-id.id
    (ap (λ m. stored_id m (stored_of c.args.table.now)) (sym c.catalog.ensures.value) ∙ c.in_ok-id.ensures.ok) c.in_ok-date.date c.in_ok-date.ensures.ok c.in-Ok.text
    (λ none. no_fault c.in-Ok.text stored.NoSnapshot (c.in-Ok.ensures.absent.1 none)) c.in-Ok.ensures.state

pub returns-in-Err-clause-works : goal.returns-in-Err-clause-works
returns-in-Err-clause-works g c = rw c.ending_of.ensures
    (λ told before opening. faulted_works _ _ _ _ (refl {a = g.F.Folder.files c.args.self.now.folder.now}) (refl {a = g.F.Folder.faults c.args.self.now.folder.now}) _ _ _ opening c.in-Err.ensures.kept c.in-Err.ensures.later c.in_ok-id.id
    (ap (λ m. stored_id m (stored_of c.args.table.now)) (sym c.catalog.ensures.value) ∙ c.in_ok-id.ensures.ok) c.in_ok-date.date c.in_ok-date.ensures.ok c.in-Err.fault
    c.in-Err.ensures.absent.0 c.in-Err.ensures.damaged c.in-Err.ensures.formed c.in-Err.ensures.undamaged c.in-Err.ensures.cause)
