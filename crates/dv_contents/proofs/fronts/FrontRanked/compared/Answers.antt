use Rattle.dv_contents.proofs.Vocabulary.{row_cmp, sym, ◌∙◌}
use Rattle.dv_contents.proofs.FirstNumbers.{first_greater, first_less}
use Rattle.dv_contents.proofs.fronts.FrontRanked.compared.Goals as goal

pub returns-in-Less : goal.returns-in-Less
returns-in-Less c =
    sym (first_less c.self.inside.row.now c.other.inside.row.now c.self.inside.prefix c.other.inside.prefix c.self.invariant c.other.invariant (sym c.cmp.ensures ∙ c.in-Less.is)) ∙ (λ i. row_cmp (c.self.view_is i) (c.other.view_is i))

pub returns-in-Greater : goal.returns-in-Greater
returns-in-Greater c =
    sym (first_greater c.self.inside.row.now c.other.inside.row.now c.self.inside.prefix c.other.inside.prefix c.self.invariant c.other.invariant (sym c.cmp.ensures ∙ c.in-Greater.is)) ∙ (λ i. row_cmp (c.self.view_is i) (c.other.view_is i))
