use Rattle.dv_sat.proofs.Vocabulary.{arith, in_load_order, multi_cmp, multi_place, ◌++◌}
use Rattle.dv_sat.proofs.multi_tables.MultiTable.apply.Goals as goal

pub apply-requires : goal.apply-requires
apply-requires c =
    (omega arith, (rw (← c.self.view_is) at c.requires.room, in_load_order multi_place multi_cmp (c.self.inside.indexed.rows ++ c.args.rows) (rw (← c.self.view_is) at c.requires.order)))
