use Rattle.dv_http_shown.proofs.Vocabulary.{httparse_on_literals, refl}
use Rattle.dv_http_shown.proofs.fields_hold.Goals as goal

pub returns : goal.returns
unfolding httparse_on_literals
returns c = assumption refl
