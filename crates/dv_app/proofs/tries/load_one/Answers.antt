use Rattle.dv_app.proofs.Vocabulary.{GotPrefix, after, ap, err_from_is_err_and, hashes_of, refl, subst, ◌∙◌}
use Rattle.dv_app.proofs.LineSteps.{line_cut, line_went, unbrought}
use Rattle.dv_app.proofs.tries.load_one.Goals as goal

pub returns-in_err-arrived-clause-goes : goal.returns-in_err-arrived-clause-goes
returns-in_err-arrived-clause-goes g c =
    let p = err_from_is_err_and c.from_residual.result c.from_residual.ensures.1 in
    rw (p.1, p.2) (unbrought (hashes_of g.H.KeyDigest.function) c.args.name.now c.args.loading.now c.args.loading.now _ _ _ refl c.in_err-arrived.ensures)

pub returns-in-Ok-clause-goes : goal.returns-in-Ok-clause-goes
returns-in-Ok-clause-goes g c = line_went (hashes_of g.H.KeyDigest.function) c.args.name.now c.args.loading.now _ _ _ _ c.in_ok-arrived.ensures _ c.in_ok-line.ensures (c.in-Ok.ensures.ok ∙ ap (after (g.E.Sink.contents c.args.err.now)) c.bytes.ensures)

pub returns-clause-goes : goal.returns-clause-goes
returns-clause-goes g c = line_cut (hashes_of g.H.KeyDigest.function) c.args.name.now c.args.loading.now _ _ _ _ c.in_ok-arrived.ensures _ c.in_ok-line.ensures c.in-Err.ensures.cause.failed
    (subst (GotPrefix (g.E.Sink.contents c.args.err.now) (g.E.Sink.contents c.write_all.new.sink)) c.bytes.ensures c.in-Err.ensures.err)
