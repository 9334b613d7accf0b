use Rattle.dv_restore.proofs.Vocabulary.{arith, effect_cmp, effect_order, effect_place, in_load_order}
use Rattle.dv_restore.proofs.PartedRows.{front_sorted}
use Rattle.dv_restore.proofs.parts.effect_parts.Goals as goal

pub part_rows-requires : goal.part_rows-requires
part_rows-requires c = (omega arith, (rw c.into_rows.ensures.value (in_load_order effect_place effect_cmp c.args.table.rows c.into_rows.ensures.kept), rw c.into_rows.ensures.value c.requires))

pub from_rows-requires : goal.from_rows-requires
from_rows-requires c =
    front_sorted effect_place c.args.load c.into_rows.result c.in_ok-sealed.sealed c.in_ok-sealed.opened (c.in_ok-sealed.ensures {u = tt}) effect_order (rw c.into_rows.ensures.value c.into_rows.ensures.kept)
