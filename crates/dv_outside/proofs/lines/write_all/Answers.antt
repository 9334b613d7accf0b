use Rattle.dv_outside.proofs.Vocabulary.{after, ap, arith, drop, err_from_is_err_and, sym, take, take-add, take-append-drop, ◌∙◌}
use Rattle.dv_outside.proofs.Told.{after-after, tail_slice}
use Rattle.dv_outside.proofs.lines.write_all.Goals as goal

pub returns-in_err-count-clause-err : goal.returns-in_err-count-clause-err
returns-in_err-count-clause-err g c =
    let p = err_from_is_err_and c.from_residual.result c.from_residual.ensures.1 in
    rw p.1 (record {
      piece = take c.loop-at.at c.args.bytes.now;
      is = c.in_err-count.ensures.err ∙ c.loop-at.invariant.told;
      front = record { rest = drop c.loop-at.at c.args.bytes.now; is = sym (take-append-drop c.loop-at.at c.args.bytes.now) };
    })

pub loop-at-preserved : goal.loop-at-preserved
loop-at-preserved g c =
    let bytes = c.args.bytes.now in
    let start = g.S.Sink.contents c.args.sink.now in
    record {
      told = rw (tail_slice c.loop-at.at bytes) at c.in_ok-count.ensures.ok
          ∙ ap (λ o. after o (take c.in_ok-count.count (drop c.loop-at.at bytes))) c.loop-at.invariant.told
          ∙ after-after start (take c.loop-at.at bytes) (take c.in_ok-count.count (drop c.loop-at.at bytes))
          ∙ ap (after start) (sym (take-add c.loop-at.at c.in_ok-count.count bytes));
      within = search (arith, c.in_ok-count.ensures.within);
      later = omega (arith, c.write.ensures.cause.later, c.loop-at.invariant.later);
    }
