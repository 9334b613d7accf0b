use Rattle.dv_track.proofs.Vocabulary.{arith, effect_cmp, effect_place, in_load_order}
use Rattle.dv_track.proofs.effect_tables.EffectTable.from_rows.Goals as goal

pub from_rows-requires : goal.from_rows-requires
from_rows-requires c = (omega arith, in_load_order effect_place effect_cmp c.args.rows c.requires)
