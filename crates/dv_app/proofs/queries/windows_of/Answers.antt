use Rattle.dv_app.proofs.Vocabulary.{ap, option_map, option_to_list, windows_text, ◌∙◌}
use Rattle.dv_app.proofs.QuerySteps.{windows_answered}
use Rattle.dv_app.proofs.queries.windows_of.Goals as goal

pub returns : goal.returns
returns c =
    let office = c.args.office.now in
    windows_answered office _
    (c.in_ok-windows_text.ensures
    ∙ ap (λ m. windows_text m c.items.result.now (option_to_list (option_map (λ head. head.now) c.as_ref.result))) c.catalog.ensures.value
    ∙ ap (λ heads. windows_text office.vault.mapping heads (option_to_list (option_map (λ head. head.now) c.as_ref.result))) (c.items.ensures ∙ c.heads.ensures.value)
    ∙ ap (λ open_one. windows_text office.vault.mapping office.vault.heads (option_to_list open_one)) (c.as_ref.ensures.value ∙ c.in_ok-head.ensures))
