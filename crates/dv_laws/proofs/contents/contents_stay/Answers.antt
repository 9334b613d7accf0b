use Rattle.dv_laws.proofs.WindowSteps.{absent_leaves, empty_before, later_leaves}
use Rattle.dv_laws.proofs.contents.contents_stay.Goals as goal

pub returns : goal.returns
returns c = record { before = empty_before; absent = absent_leaves; later = later_leaves }
