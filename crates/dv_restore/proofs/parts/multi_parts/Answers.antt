use Rattle.dv_restore.proofs.Vocabulary.{arith, in_load_order, multi_cmp, multi_order, multi_place}
use Rattle.dv_restore.proofs.PartedRows.{front_sorted}
use Rattle.dv_restore.proofs.parts.multi_parts.Goals as goal

pub part_rows-requires : goal.part_rows-requires
part_rows-requires c = (omega arith, (rw c.into_rows.ensures.value (in_load_order multi_place multi_cmp c.args.table.rows c.into_rows.ensures.kept), rw c.into_rows.ensures.value c.requires))

pub from_rows-requires : goal.from_rows-requires
from_rows-requires c =
    front_sorted multi_place c.args.load c.into_rows.result c.in_ok-sealed.sealed c.in_ok-sealed.opened (c.in_ok-sealed.ensures {u = tt}) multi_order (rw c.into_rows.ensures.value c.into_rows.ensures.kept)
