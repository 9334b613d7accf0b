use Rattle.dv_hub_link.proofs.Placed.{row_is}
use Rattle.dv_hub_link.proofs.key_rows.KeyRows.row.Goals as goal

pub returns : goal.returns
returns g c =
    rw (← c.self.view_is)
    (row_is g.R.Placed.place c.self.inside.indexed.rows c.args.d.now c.self.invariant c.rows.result.now c.rows.ensures c.in_ok-last.last.now c.in_ok-last.ensures.value _ (rw (← c.load.ensures) c.latest.ensures))
