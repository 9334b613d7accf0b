use Rattle.dv_sat.proofs.Vocabulary.{arith, in_load_order, multi_cmp, multi_place}
use Rattle.dv_sat.proofs.multi_tables.MultiTable.from_rows.Goals as goal

pub from_rows-requires : goal.from_rows-requires
from_rows-requires c = (omega arith, in_load_order multi_place multi_cmp c.args.rows c.requires)
