use Rattle.dv_laws.proofs.Vocabulary.{effect_tied, hub_tied, link_tied, multi_tied, sat_tied, status_tied}
use Rattle.dv_laws.proofs.batches.batches_tied.Goals as goal

pub returns : goal.returns
returns c = record { hub = λ mapping hashes hub. hub_tied mapping hub hashes; link = λ mapping hashes link. link_tied mapping link hashes; sat = sat_tied; multi = multi_tied; status = status_tied; effect = effect_tied }
