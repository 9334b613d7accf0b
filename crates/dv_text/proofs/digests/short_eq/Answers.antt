use Rattle.dv_text.proofs.BigEndian.{short_same}
use Rattle.dv_text.proofs.digests.short_eq.Goals as goal

pub returns-then-a-b : goal.returns-then-a-b
returns-then-a-b c =
    short_same c.args.a.now c.args.b.now _ _ _ _ c.halves-a.ensures.kept c.halves-b.ensures.kept c.halves-a.ensures.first c.halves-b.ensures.first c.halves-a.ensures.second c.halves-b.ensures.second
    c.if-a-b.true
