use Rattle.dv_catalog.proofs.SameEntries.{hubs_decide}
use Rattle.dv_catalog.proofs.catalogs.same_hubs.Goals as goal

pub returns : goal.returns
returns c = hubs_decide c.args.some.now c.args.other.now c.eq.result c.eq.ensures
