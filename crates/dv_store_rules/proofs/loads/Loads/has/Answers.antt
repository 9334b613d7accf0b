use Rattle.dv_store_rules.proofs.Vocabulary.{ap, has_number, ◌∙◌}
use Rattle.dv_store_rules.proofs.DateLookups.{looked_up}
use Rattle.dv_store_rules.proofs.loads.Loads.has.Goals as goal

pub returns : goal.returns
returns c =
    c.is_ok.ensures.value
    ∙ looked_up c.self.inside.dates.items c.args.load c.binary_search.result (rw c.deref.ensures.value at c.binary_search.ensures.position) c.self.invariant
    ∙ ap (λ dates. has_number dates c.args.load) c.self.view_is
