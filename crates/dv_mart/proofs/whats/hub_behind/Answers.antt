use Rattle.dv_mart.proofs.Vocabulary.{ap, behind, hub_place, option_and_then, ◌∙◌}
use Rattle.dv_mart.proofs.whats.hub_behind.Goals as goal

pub returns : goal.returns
returns c =
    let is = c.in-Some.ensures ∙ ap (behind c.args.kind.now) c.bytes.ensures in
    c.find_hub.ensures ∙ ap (hub_place c.args.catalog.now) c.in_ok-name.ensures ∙ ap (option_and_then (hub_place c.args.catalog.now)) is
