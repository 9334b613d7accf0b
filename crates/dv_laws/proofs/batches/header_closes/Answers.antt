use Rattle.dv_laws.proofs.HeaderSteps.{closes}
use Rattle.dv_laws.proofs.batches.header_closes.Goals as goal

pub returns : goal.returns
returns c = closes
