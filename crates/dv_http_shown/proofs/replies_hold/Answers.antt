use Rattle.dv_http_shown.proofs.Vocabulary.{digits, refl}
use Rattle.dv_http_shown.proofs.replies_hold.Goals as goal

pub returns : goal.returns
unfolding digits
returns c = assumption refl
