use Rattle.dv_sat.proofs.Vocabulary.{arith, in_load_order, sat_cmp, sat_place, ◌++◌}
use Rattle.dv_sat.proofs.sat_tables.SatTable.apply.Goals as goal

pub apply-requires : goal.apply-requires
apply-requires c =
    (omega arith, (rw (← c.self.view_is) at c.requires.room, in_load_order sat_place sat_cmp (c.self.inside.indexed.rows ++ c.args.rows) (rw (← c.self.view_is) at c.requires.order)))
