use Rattle.dv_mart.proofs.Vocabulary.{ap, behind, option_and_then, path_place, ◌∙◌}
use Rattle.dv_mart.proofs.whats.path_behind.Goals as goal

pub returns : goal.returns
returns c =
    let is = c.in-Some.ensures ∙ ap (behind c.args.kind.now) c.bytes.ensures in
    c.find_path.ensures ∙ ap (path_place c.args.catalog.now) c.in_ok-name.ensures ∙ ap (option_and_then (path_place c.args.catalog.now)) is
