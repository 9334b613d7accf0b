use Rattle.dv_track.proofs.Vocabulary.{arith, in_load_order, status_cmp, status_place, ◌++◌}
use Rattle.dv_track.proofs.status_tables.StatusTable.apply.Goals as goal

pub apply-requires : goal.apply-requires
apply-requires c = (
  omega arith,
  (
    rw (← c.self.view_is) at c.requires.room,
    in_load_order status_place status_cmp (c.self.inside.tracked.rows ++ c.args.rows) (rw (← c.self.view_is) at c.requires.order),
  ),
)
