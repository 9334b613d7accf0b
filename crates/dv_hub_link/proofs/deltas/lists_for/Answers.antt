use Rattle.dv_hub_link.proofs.Held.{held_apart_rows}
use Rattle.dv_hub_link.proofs.deltas.lists_for.Goals as goal

pub new_lists-requires-clause-held : goal.new_lists-requires-clause-held
new_lists-requires-clause-held g c κs within = held_apart_rows g.R.Placed.place (g.L.TellsLists.list c.args.lists.now) c.args.rows.now.rows c.note_rows.ensures
