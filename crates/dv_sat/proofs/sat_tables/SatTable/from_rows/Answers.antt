use Rattle.dv_sat.proofs.Vocabulary.{arith, in_load_order, sat_cmp, sat_place}
use Rattle.dv_sat.proofs.sat_tables.SatTable.from_rows.Goals as goal

pub from_rows-requires : goal.from_rows-requires
from_rows-requires c = (omega arith, in_load_order sat_place sat_cmp c.args.rows c.requires)
