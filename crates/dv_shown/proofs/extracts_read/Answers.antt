use Rattle.dv_shown.proofs.Literals.{extracts_on_literals}
use Rattle.dv_shown.proofs.extracts_read.Goals as goal

pub returns : goal.returns
unfolding extracts_on_literals
returns c = search
