use Rattle.dv_window_rules.proofs.Vocabulary.{ap, is_some, ◌∙◌}
use Rattle.dv_window_rules.proofs.GivenSteps.{feed_place}
use Rattle.dv_window_rules.proofs.given_rules.is_feed.Goals as goal

pub returns : goal.returns
returns c = c.is_some.ensures ∙ ap is_some c.find_feed.ensures ∙ feed_place c.args.catalog.now c.args.name.now
