use Rattle.dv_hub_link.proofs.Vocabulary.{◌∙◌}
use Rattle.dv_hub_link.proofs.Placed.{rows_are}
use Rattle.dv_hub_link.proofs.key_rows.KeyRows.rows_of.Goals as goal

pub returns : goal.returns
returns g c =
    rw (← c.self.view_is) (c.in_ok-found.ensures ∙ rows_are g.R.Placed.place c.self.inside.indexed.rows c.args.digests.now c.last_load-date.result c.self.invariant (rw (← c.self.view_is) at c.last_load-date.ensures))
