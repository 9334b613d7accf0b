use Rattle.dv_text.proofs.Vocabulary.{◌∙◌}
use Rattle.dv_text.proofs.BigEndian.{short_apart, short_level}
use Rattle.dv_text.proofs.digests.short_cmp.Goals as goal

pub returns-then-a-b : goal.returns-then-a-b
returns-then-a-b c =
    c.cmp.ensures
    ∙ short_level c.args.a.now c.args.b.now _ _ _ _ c.halves-a.ensures.kept c.halves-b.ensures.kept c.halves-a.ensures.first c.halves-b.ensures.first c.halves-a.ensures.second c.halves-b.ensures.second
    c.if-a-b.true

pub returns-else-a-b : goal.returns-else-a-b
returns-else-a-b c =
    c.cmp-else-a-b.ensures
    ∙ short_apart c.args.a.now c.args.b.now _ _ _ _ c.halves-a.ensures.kept c.halves-b.ensures.kept c.halves-a.ensures.first c.halves-b.ensures.first c.halves-a.ensures.second c.halves-b.ensures.second
    c.if-a-b.false
