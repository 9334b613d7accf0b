use Rattle.dv_catalog.proofs.SameEntries.{links_decide}
use Rattle.dv_catalog.proofs.catalogs.same_links.Goals as goal

pub returns : goal.returns
returns c = links_decide c.args.some.now c.args.other.now c.eq.result c.eq.ensures
