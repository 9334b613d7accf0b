use Rattle.dv_shown.proofs.PathLimits.{path_limits}
use Rattle.dv_shown.proofs.path_limits.path_limits_hold.Goals as goal

pub returns : goal.returns
returns c = path_limits
