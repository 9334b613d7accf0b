use Rattle.dv_laws.proofs.Vocabulary.{delta_is_batch}
use Rattle.dv_laws.proofs.deltas.sat_delta_is_batch.Goals as goal

pub returns : goal.returns
returns c = delta_is_batch
