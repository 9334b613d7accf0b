use Rattle.dv_mart.proofs.Vocabulary.{key_agrees, key_cmp, key_total, sym, ◌∙◌}
use Rattle.dv_mart.proofs.KeyFronts.{first_greater, first_less}
use Rattle.dv_mart.proofs.lent_keys.LentKeyRanked.compared.Goals as goal

pub returns-in-Less : goal.returns-in-Less
returns-in-Less c =
    sym (first_less key_total key_agrees c.self.inside.key.now c.other.inside.key.now c.self.inside.prefix c.other.inside.prefix c.self.invariant c.other.invariant (sym c.cmp.ensures ∙ c.in-Less.is)) ∙ (λ i. key_cmp (c.self.view_is i) (c.other.view_is i))

pub returns-in-Greater : goal.returns-in-Greater
returns-in-Greater c =
    sym (first_greater key_total key_agrees c.self.inside.key.now c.other.inside.key.now c.self.inside.prefix c.other.inside.prefix c.self.invariant c.other.invariant (sym c.cmp.ensures ∙ c.in-Greater.is)) ∙ (λ i. key_cmp (c.self.view_is i) (c.other.view_is i))
