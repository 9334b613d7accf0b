use Rattle.dv_hub_link.proofs.LinkWindows.{next_batch, next_collides, next_free}
use Rattle.dv_laws.proofs.deltas.link_delta_is_batch.Goals as goal

pub returns-clause-batch : goal.returns-clause-batch
returns-clause-batch c = next_batch

pub returns-clause-collides : goal.returns-clause-collides
returns-clause-collides c = λ mapping hashes names link older window rows load items pair next. next_collides mapping hashes names link older window rows load items next pair

pub returns-clause-free : goal.returns-clause-free
returns-clause-free c = next_free
