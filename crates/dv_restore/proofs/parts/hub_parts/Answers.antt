use Rattle.dv_restore.proofs.Vocabulary.{and_parts, are_in_load_order, are_parents_apart, arith, hub_place}
use Rattle.dv_restore.proofs.PartedRows.{front_placed}
use Rattle.dv_restore.proofs.parts.hub_parts.Goals as goal

pub part_rows-requires : goal.part_rows-requires
part_rows-requires c = (omega arith, (rw c.into_rows.ensures.value ((and_parts (are_parents_apart hub_place c.args.table.rows) (are_in_load_order hub_place c.args.table.rows) c.into_rows.ensures.kept).1), rw c.into_rows.ensures.value c.requires))

pub from_rows-requires : goal.from_rows-requires
from_rows-requires c =
    front_placed hub_place c.args.load c.into_rows.result c.in_ok-sealed.sealed c.in_ok-sealed.opened (c.in_ok-sealed.ensures {u = tt}) (rw c.into_rows.ensures.value c.into_rows.ensures.kept)
