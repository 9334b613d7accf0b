use Rattle.dv_laws.proofs.Ascending.{extract_batches, window_batches}
use Rattle.dv_laws.proofs.batches.batches_ascend.Goals as goal

pub returns : goal.returns
returns c = (window_batches, extract_batches)
