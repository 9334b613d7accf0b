use Rattle.dv_track.proofs.Vocabulary.{arith, in_load_order, status_cmp, status_place}
use Rattle.dv_track.proofs.status_tables.StatusTable.from_rows.Goals as goal

pub from_rows-requires : goal.from_rows-requires
from_rows-requires c = (omega arith, in_load_order status_place status_cmp c.args.rows c.requires)
