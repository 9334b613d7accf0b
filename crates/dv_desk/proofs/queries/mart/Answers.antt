use Rattle.dv_desk.proofs.Vocabulary.{IsOffered, ap, offered_mart, subst, sym, ◌∙◌}
use Rattle.dv_desk.proofs.Read.{dated_mart, none_of, undated_mart, unknown_mart}
use Rattle.dv_desk.proofs.queries.mart.Goals as goal

pub returns-in_default : goal.returns-in_default
returns-in_default c = unknown_mart c.args.office.now c.args.word.now c.args.date.now
    (ap (offered_mart c.args.office.now.vault.mapping) (sym c.in_ok-word.ensures) ∙ ap (λ m. offered_mart m c.in_ok-word.word) (sym c.catalog.ensures.value) ∙ sym c.in_ok-what.ensures.mart
    ∙ none_of c.in_ok-what.field-0 c.in_default.not-Some)

pub mart_at-requires : goal.mart_at-requires
mart_at-requires c = subst (λ m. IsOffered m c.in-Some.what) c.catalog.ensures.value (rw c.in-Some.is at c.in_ok-what.ensures.offered)

pub returns-in-Some-read : goal.returns-in-Some-read
returns-in-Some-read c = dated_mart c.args.office.now c.args.word.now c.args.date.now c.in-Some.what
    (ap (offered_mart c.args.office.now.vault.mapping) (sym c.in_ok-word.ensures) ∙ ap (λ m. offered_mart m c.in_ok-word.word) (sym c.catalog.ensures.value) ∙ sym c.in_ok-what.ensures.mart ∙ c.in-Some.is)
    c.mart_at.result c.in-Some-read.at (sym c.in-Some-read.ensures) c.mart_at.ensures

pub returns : goal.returns
returns c = undated_mart c.args.office.now c.args.word.now c.args.date.now c.in-Some.what
    (ap (offered_mart c.args.office.now.vault.mapping) (sym c.in_ok-word.ensures) ∙ ap (λ m. offered_mart m c.in_ok-word.word) (sym c.catalog.ensures.value) ∙ sym c.in_ok-what.ensures.mart ∙ c.in-Some.is)
    c.bad_date.result (sym c.in-None.ensures) c.bad_date.ensures
