use Rattle.dv_mart.proofs.Vocabulary.{Bor, Key, first_agrees, key_agrees, key_cmp, key_total, keyed_cmp, lex_map, lists_total, refs_cmp, sym, ◌∙◌}
use Rattle.dv_mart.proofs.KeyFronts.{first_greater, first_less}
use Rattle.dv_mart.proofs.path_keys.FrontRanked.compared.Goals as goal

pub returns-in-Less : goal.returns-in-Less
returns-in-Less c =
    sym (first_less (lists_total key_total) (first_agrees key_agrees) c.self.inside.link.keys c.other.inside.link.keys c.self.inside.prefix c.other.inside.prefix c.self.invariant c.other.invariant (sym c.cmp.ensures ∙ c.in-Less.is))
    ∙ (λ i. keyed_cmp (c.self.view_is i) (c.other.view_is i))

pub returns-in-Equal : goal.returns-in-Equal
returns-in-Equal c =
    c.cmp-in-Equal.ensures
    ∙ sym (lex_map (λ (key : Bor Key). key.now) key_cmp c.keys.result.now c.keys-in-Equal.result.now)
    ∙ (λ i. refs_cmp (c.keys.ensures i) (c.keys-in-Equal.ensures i))
    ∙ (λ i. keyed_cmp (c.self.view_is i) (c.other.view_is i))

pub returns-in-Greater : goal.returns-in-Greater
returns-in-Greater c =
    sym (first_greater (lists_total key_total) (first_agrees key_agrees) c.self.inside.link.keys c.other.inside.link.keys c.self.inside.prefix c.other.inside.prefix c.self.invariant c.other.invariant (sym c.cmp.ensures ∙ c.in-Greater.is))
    ∙ (λ i. keyed_cmp (c.self.view_is i) (c.other.view_is i))
