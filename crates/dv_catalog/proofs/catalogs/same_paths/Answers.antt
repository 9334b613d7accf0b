use Rattle.dv_catalog.proofs.SameEntries.{paths_decide}
use Rattle.dv_catalog.proofs.catalogs.same_paths.Goals as goal

pub returns : goal.returns
returns c = paths_decide c.args.some.now c.args.other.now c.eq.result c.eq.ensures
