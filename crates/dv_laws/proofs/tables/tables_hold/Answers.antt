use Rattle.dv_laws.proofs.TableLaws.{hub_holds, link_holds}
use Rattle.dv_laws.proofs.tables.tables_hold.Goals as goal

pub returns : goal.returns
returns c = record { hub = hub_holds; link = link_holds }
