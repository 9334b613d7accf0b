use Rattle.dv_serving.proofs.Vocabulary.{after, after-after, ap, arith, drop, err_from_is_err_and, length-drop, sym, tail_slice, take, take-add, take-append-drop, ◌∙◌}
use Rattle.dv_serving.proofs.writing.write_whole.Goals as goal

pub returns-in_err-count-clause-err : goal.returns-in_err-count-clause-err
returns-in_err-count-clause-err g c =
    let p = err_from_is_err_and c.from_residual.result c.from_residual.ensures.1 in
    rw p.1 (record {
      piece = take c.loop-at.at c.args.bytes.now;
      cut = record {
        rest = drop c.loop-at.at c.args.bytes.now;
        is = sym (take-append-drop c.loop-at.at c.args.bytes.now);
        some = omega (arith, length-drop c.loop-at.at c.args.bytes.now);
      };
      is = c.in_err-count.ensures.err ∙ c.loop-at.invariant.told;
    })

pub loop-at-preserved : goal.loop-at-preserved
loop-at-preserved g c =
    let bytes = c.args.bytes.now in
    let start = g.L.Link.contents c.args.link.now in
    record {
      told = rw (tail_slice c.loop-at.at bytes) at c.in_ok-count.ensures.ok
          ∙ ap (λ o. after o (take c.in_ok-count.count (drop c.loop-at.at bytes))) c.loop-at.invariant.told
          ∙ after-after start (take c.loop-at.at bytes) (take c.in_ok-count.count (drop c.loop-at.at bytes))
          ∙ ap (after start) (sym (take-add c.loop-at.at c.in_ok-count.count bytes));
      within = search (arith, c.in_ok-count.ensures.within);
      kept = c.write.ensures.kept ∙ c.loop-at.invariant.kept;
      later = omega (arith, c.write.ensures.cause.later, c.loop-at.invariant.later);
    }
