use Rattle.dv_laws.proofs.Vocabulary.{undamaged}
use Rattle.dv_laws.proofs.stores.standing_stores_are_sound.Goals as goal

pub returns : goal.returns
returns c = undamaged
