use Rattle.dv_laws.proofs.Vocabulary.{pit_tells}
use Rattle.dv_laws.proofs.tables.pits_tell.Goals as goal

pub returns : goal.returns
returns c = pit_tells
