use Rattle.dv_mart.proofs.Vocabulary.{[], key_cmp, lex_map, refs_cmp, sym, ◌∙◌, ◌∷◌}
use Rattle.dv_mart.proofs.hub_columns.compared.Goals as goal

pub returns : goal.returns
returns c =
    c.cmp.ensures
    ∙ sym (lex_map (λ key. key.now) key_cmp c.refs.result.now (c.key.result ∷ []))
    ∙ (λ i. refs_cmp (c.refs.ensures i) (c.key.ensures i ∷ []))
