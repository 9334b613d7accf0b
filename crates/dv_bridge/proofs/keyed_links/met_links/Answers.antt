use Rattle.dv_bridge.proofs.JoinSteps.{none_met}
use Rattle.dv_bridge.proofs.keyed_links.met_links.Goals as goal

pub returns-in_default : goal.returns-in_default
returns-in_default c = none_met c.args.key c.args.links.now c.in_default.not-Some
