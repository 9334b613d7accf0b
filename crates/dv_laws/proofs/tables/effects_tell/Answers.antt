use Rattle.dv_laws.proofs.EffectsTell.{effects_tell as told, since_tells}
use Rattle.dv_laws.proofs.tables.effects_tell.Goals as goal

pub returns : goal.returns
returns c = record { periods = told; since = since_tells }
