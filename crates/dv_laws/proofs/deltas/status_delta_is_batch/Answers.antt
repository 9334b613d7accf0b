use Rattle.dv_track.proofs.DeltaBatch.{delta_is_batch}
use Rattle.dv_laws.proofs.deltas.status_delta_is_batch.Goals as goal

pub returns : goal.returns
returns c = delta_is_batch
