use Rattle.dv_http_shown.proofs.Vocabulary.{form_urlencoded_on_literals, httparse_on_literals, refl}
use Rattle.dv_http_shown.proofs.heads_hold.Goals as goal

pub returns : goal.returns
unfolding httparse_on_literals form_urlencoded_on_literals
returns c = assumption refl
