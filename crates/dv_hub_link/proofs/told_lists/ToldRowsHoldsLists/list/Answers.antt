use Rattle.dv_hub_link.proofs.Vocabulary.{Some, ap, sym, ◌∙◌}
use Rattle.dv_hub_link.proofs.KeyDeltas.{none_found, one_found}
use Rattle.dv_hub_link.proofs.told_lists.ToldRowsHoldsLists.list.Goals as goal

pub returns-in_default : goal.returns-in_default
returns-in_default g c = sym (none_found g.R.Placed.place (g.L.TellsLists.list c.args.self.now.lists.now) c.args.d.now c.args.self.now.rows.now.rows c.row.result c.row.ensures c.in_default.is)

pub returns : goal.returns
returns g c = ap Some c.in_ok-refs.ensures ∙ sym (one_found g.R.Placed.place (g.L.TellsLists.list c.args.self.now.lists.now) c.args.d.now c.args.self.now.rows.now.rows c.row.result c.row.ensures _ c.in-Some.is)
