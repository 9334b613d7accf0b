use Rattle.dv_http.proofs.Vocabulary.{HasNoEnd, arith, false≢true, subst, sym, take_all, ◌∙◌}
use Rattle.dv_http.proofs.{Ends.no_end_more, heads.may_end.Goals.else-bytes-at-eq10-via-then-bytes-at-eq10+else-ends_line, heads.may_end.Goals.else-bytes-at-eq10-via-else-bytes-at-eq10}
use Rattle.dv_http.proofs.heads.may_end.Goals as goal

pub loop-at-preserved : goal.loop-at-preserved
loop-at-preserved c = no_end_more c.args.bytes.now c.args.from c.loop-at.at c.loop-at-test.true c.loop-at.invariant (λ is line.
    elim c.else-bytes-at-eq10.branch [
      | else-bytes-at-eq10-via-then-bytes-at-eq10+else-ends_line w ↦ false≢true (sym w.if-ends_line.false ∙ w.ends_line.ensures line)
      | else-bytes-at-eq10-via-else-bytes-at-eq10 w ↦ w.if-bytes-at-eq10.false is
    ])

pub returns : goal.returns
returns c _ = subst (HasNoEnd c.args.from) (take_all c.loop-at.at c.args.bytes.now (omega (arith, c.loop-at-test.false))) c.loop-at.invariant
