use Rattle.dv_shown.proofs.Vocabulary.{refl, spelt}
use Rattle.dv_shown.proofs.numbers_hold.Goals as goal

pub returns : goal.returns
unfolding spelt
returns c = assumption refl
