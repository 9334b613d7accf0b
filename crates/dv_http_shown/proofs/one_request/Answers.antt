use Rattle.dv_http_shown.proofs.Requests.{one_taken}
use Rattle.dv_http_shown.proofs.one_request.Goals as goal

pub returns : goal.returns
returns c = one_taken
