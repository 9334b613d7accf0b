use Rattle.dv_http_shown.proofs.Vocabulary.{[], arith, codes, form_urlencoded_on_literals, httparse_on_literals, old, posted, refl}
use Rattle.dv_http_shown.proofs.SampleHeads.{head_old, head_posted}
use Rattle.dv_http_shown.proofs.requests_hold.Goals as goal

pub returns : goal.returns
unfolding form_urlencoded_on_literals httparse_on_literals
returns c =
    record {
      taken = record { head = posted; body = codes "abc"; has = record { reads = (head_posted, refl); size = omega arith; fields = omega arith }; is = refl; made = refl };
      old = record { head = old; body = []; has = record { reads = (head_old, refl); size = omega arith; fields = omega arith }; is = refl; made = refl };
    }
