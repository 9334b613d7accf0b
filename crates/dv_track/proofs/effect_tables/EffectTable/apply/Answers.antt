use Rattle.dv_track.proofs.Vocabulary.{arith, effect_cmp, effect_place, in_load_order, ◌++◌}
use Rattle.dv_track.proofs.effect_tables.EffectTable.apply.Goals as goal

pub apply-requires : goal.apply-requires
apply-requires c = (
  omega arith,
  (
    rw (← c.self.view_is) at c.requires.room,
    in_load_order effect_place effect_cmp (c.self.inside.tracked.rows ++ c.args.rows) (rw (← c.self.view_is) at c.requires.order),
  ),
)
