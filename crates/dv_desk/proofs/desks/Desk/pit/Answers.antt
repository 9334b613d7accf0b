use Rattle.dv_desk.proofs.Vocabulary.{ap, hub_place, sym, ◌∙◌}
use Rattle.dv_desk.proofs.Read.{dated_pit, none_of, undated_pit, unknown_pit, unnamed_pit}
use Rattle.dv_desk.proofs.desks.Desk.pit.Goals as goal

pub returns-in_default-clause-read : goal.returns-in_default-clause-read
returns-in_default-clause-read g c = unnamed_pit _ _ _

pub returns-in_default-named-clause-read : goal.returns-in_default-named-clause-read
returns-in_default-named-clause-read g c = unknown_pit _ _ _
    (ap (λ m. hub_place m c.args.name.now) (sym c.catalog.ensures.value) ∙ sym c.in-Ok.ensures.named ∙ none_of c.in-Ok.named c.in_default-named.not-Some)

pub returns-in-Some-read-clause-read : goal.returns-in-Some-read-clause-read
returns-in-Some-read-clause-read g c = dated_pit _ _ _ c.in-Some.hub
    (ap (λ m. hub_place m c.args.name.now) (sym c.catalog.ensures.value) ∙ sym c.in-Ok.ensures.named ∙ c.in-Some.is)
    c.in-Some-read.at (sym c.in-Some-read.ensures) _ c.pit_at.result c.pit_at.ensures.read

pub returns-in-None-clause-read : goal.returns-in-None-clause-read
returns-in-None-clause-read g c = rw c.or_memory.ensures (undated_pit _ _ _ c.in-Some.hub
    (ap (λ m. hub_place m c.args.name.now) (sym c.catalog.ensures.value) ∙ sym c.in-Ok.ensures.named ∙ c.in-Some.is)
    (sym c.in-None.ensures) c.bad_date.result c.bad_date.ensures)
