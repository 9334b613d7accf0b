use Rattle.dv_http_shown.proofs.Requests.{not_refused}
use Rattle.dv_http_shown.proofs.taken_not_refused.Goals as goal

pub returns : goal.returns
returns c = not_refused
