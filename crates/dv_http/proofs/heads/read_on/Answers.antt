use Rattle.dv_http.proofs.Vocabulary.{HasNoEnd, ap, arith, held, length, subst, ◌∙◌}
use Rattle.dv_http.proofs.{Bodies.came_twice, Ends.none_later}
use Rattle.dv_http.proofs.heads.read_on.Goals as goal

pub reads-preserved : goal.reads-preserved
reads-preserved g c =
    let start = held c.args.buffer.now in
    let old = held c.reads.buffer in
    let new = held c.fill.new.self in
    let came = c.in_ok-fill.ensures.came in
    let ends = subst (λ l. HasNoEnd (length l) new) c.held-from.ensures (subst (HasNoEnd (length c.held-from.result.now)) c.held-held.ensures (c.may_end.ensures c.if-may_end.false)) in
    record {
      came = came_twice start old new (g.L.Link.left c.args.link.now) (g.L.Link.left c.reads.link) (g.L.Link.left c.fill.new.link) c.reads.invariant.came came;
      more = omega (arith, c.reads.invariant.more, c.in_ok-fill.ensures.count);
      short = omega (arith, c.if-held-ge-HEAD_MOST.false, ap length c.held-held.ensures);
      none = none_later old came.piece new c.reads.invariant.none came.is ends;
      before = c.reads.invariant.before;
      kept = c.fill.ensures.kept ∙ c.reads.invariant.kept;
      spent = c.fill.ensures.spent ∙ c.reads.invariant.spent;
      later = omega (arith, c.fill.ensures.cause.later, c.reads.invariant.later);
    }
