use Rattle.dv_desk.proofs.Vocabulary.{ap, heads_body, ◌∙◌}
use Rattle.dv_desk.proofs.Read.{heads_looked}
use Rattle.dv_desk.proofs.queries.heads.Goals as goal

pub returns : goal.returns
returns c =
    let office = c.args.office.now in
    heads_looked office c.in_ok-text.text (
    c.in_ok-text.ensures
    ∙ ap (λ m. heads_body m c.items-sealed.result.now c.begun_load.result) c.catalog.ensures.value
    ∙ ap (λ heads. heads_body office.vault.mapping heads c.begun_load.result) (c.items-sealed.ensures ∙ c.heads.ensures.value)
    ∙ ap (heads_body office.vault.mapping office.vault.heads) c.begun_load.ensures)
