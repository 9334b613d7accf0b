use Rattle.dv_outside.proofs.Vocabulary.{[], after, ap, err_from_is_err_and, ◌++◌, ◌∙◌, ◌∷◌}
use Rattle.dv_outside.proofs.Told.{after-after, got_behind}
use Rattle.dv_outside.proofs.lines.write_line.Goals as goal

pub returns-in_err-write_all-3-clause-err : goal.returns-in_err-write_all-3-clause-err
returns-in_err-write_all-3-clause-err g c =
    let p = err_from_is_err_and c.from_residual-in_err-write_all-3.result c.from_residual-in_err-write_all-3.ensures.1 in
    let old = g.S.Sink.contents c.args.sink.now in
    let two = c.in_ok-write_all-2.ensures.ok ∙ ap (λ o. after o c.args.second.now) c.in_ok-write_all.ensures.ok ∙ after-after old c.args.first.now c.args.second.now in
    rw p.1 (got_behind old _ _ (c.args.first.now ++ c.args.second.now) (10 ∷ []) two c.in_err-write_all-3.ensures.err)
