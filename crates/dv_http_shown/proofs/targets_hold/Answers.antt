use Rattle.dv_http_shown.proofs.Vocabulary.{form_urlencoded_on_literals, refl}
use Rattle.dv_http_shown.proofs.targets_hold.Goals as goal

pub returns : goal.returns
unfolding form_urlencoded_on_literals
returns c = assumption refl
