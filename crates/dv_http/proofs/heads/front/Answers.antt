use Rattle.dv_http.proofs.Vocabulary.{ap, arith, length, min, take, take_min, ◌∙◌, ◌≡◌}
use Rattle.dv_http.proofs.heads.front.Goals as goal

pub returns : goal.returns
returns c =
    let same : c.min.result ≡ min 16384 (length c.args.bytes.now) = omega (arith, c.min.ensures) in
    ap (λ n. take n c.args.bytes.now) same ∙ take_min 16384 c.args.bytes.now
