use Rattle.dv_desk.proofs.Vocabulary.{ap, option_map, view, view-lookup, view_of_ref, ◌∙◌}
use Rattle.dv_desk.proofs.posted.member.Goals as goal

pub returns : goal.returns
returns c = view_of_ref c.get.result ∙ ap (option_map view) c.get.ensures.value ∙ view-lookup c.args.name.now c.args.members.now.entries
