use Rattle.dv_app.proofs.Vocabulary.{IsOffered, MartEnds, RawVault, ap, err_from_is_err_and, offered_mart, subst, sym, ◌∙◌}
use Rattle.dv_app.proofs.QuerySteps.{mart_answered, mart_undated, mart_unknown}
use Rattle.dv_app.proofs.queries.mart_of.Goals as goal

pub returns-in_err-what : goal.returns-in_err-what
returns-in_err-what c =
    let p = err_from_is_err_and c.from_residual.result c.from_residual.ensures.1 in
    rw (p.1, p.2) (mart_unknown c.args.office.now c.args.what.now c.args.date.now c.in_err-what.field-0.0
    (subst (λ m. MartEnds m c.args.what.now c.in_err-what.field-0.0) c.catalog.ensures.value c.in_err-what.ensures.ends))

pub returns-in_err-date : goal.returns-in_err-date
returns-in_err-date c =
    let p = err_from_is_err_and c.from_residual-in_err-date.result c.from_residual-in_err-date.ensures.1 in
    rw (p.1, p.2) (mart_undated c.args.office.now c.args.what.now c.args.date.now c.in_ok-what.what
    (ap (λ m. offered_mart m c.args.what.now) (sym c.catalog.ensures.value) ∙ c.in_ok-what.ensures.ok) c.in_err-date.field-0.0 c.in_err-date.ensures.ends)

pub text_of-requires : goal.text_of-requires
text_of-requires c = subst (λ m. IsOffered m c.in_ok-what.what) (c.catalog.ensures.value ∙ ap (λ (v : RawVault). v.mapping) (sym c.vault.ensures)) c.in_ok-what.ensures.offered

pub returns : goal.returns
returns c = mart_answered c.args.office.now c.args.what.now c.args.date.now c.in_ok-what.what
    (ap (λ m. offered_mart m c.args.what.now) (sym c.catalog.ensures.value) ∙ c.in_ok-what.ensures.ok) c.in_ok-date.date c.in_ok-date.ensures.ok _ c.vault.ensures
    c.text_of.result c.text_of.ensures.ok c.text_of.ensures.ends
