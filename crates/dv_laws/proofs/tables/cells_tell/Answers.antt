use Rattle.dv_laws.proofs.Vocabulary.{multi_cells, sat_cells}
use Rattle.dv_laws.proofs.tables.cells_tell.Goals as goal

pub returns : goal.returns
returns c = record { sat = sat_cells; multi = multi_cells }
