use Rattle.dv_hub_link.proofs.Placed.{none_later}
use Rattle.dv_hub_link.proofs.key_rows.KeyRows.last_load.Goals as goal

pub returns-in-Some : goal.returns-in-Some
returns-in-Some g c =
    rw (← c.self.view_is, c.load.ensures)
    (none_later g.R.Placed.place c.self.inside.indexed.rows c.self.invariant c.rows.result.now c.rows.ensures c.in-Some.last.now c.in-Some.ensures.value)
