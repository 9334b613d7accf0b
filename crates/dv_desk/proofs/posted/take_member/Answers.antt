use Rattle.dv_desk.proofs.Vocabulary.{ap, option_map, view, view-lookup, ◌∙◌}
use Rattle.dv_desk.proofs.posted.take_member.Goals as goal

pub returns : goal.returns
returns c = ap (option_map view) c.remove.ensures.value ∙ view-lookup c.args.name.now c.args.members.now.entries
