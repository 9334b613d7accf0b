use Rattle.dv_desk_shown.proofs.Vocabulary.{refl}
use Rattle.dv_desk_shown.proofs.words_hold.Goals as goal

pub returns : goal.returns
returns c = assumption refl
