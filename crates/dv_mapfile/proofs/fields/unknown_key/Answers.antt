use Rattle.dv_mapfile.proofs.Vocabulary.{sym, ◌∙◌}
use Rattle.dv_mapfile.proofs.Keys.{first_unknown-known, first_unknown-other, unknown_key-start}
use Rattle.dv_mapfile.proofs.fields.unknown_key.Goals as goal

pub loop-key-init : goal.loop-key-init
loop-key-init c =
    unknown_key-start c.args.known.now c.args.table.now.entries _ (c.into_iter-key-iterator.ensures.into_iter_gives ∙ c.keys-key-items.ensures.rest)

pub returns-then-not-is_known : goal.returns-then-not-is_known
returns-then-not-is_known c =
    rw (c.as_str-then-not-is_known.ensures.value)
    (sym (c.loop-key.invariant ∙ first_unknown-other c.args.known.now _ c.in-Some.key.now _ c.in-Some.ensures.steps (sym (rw (c.as_str.ensures.value) at c.if-not-is_known.ensures))))

pub loop-key-preserved : goal.loop-key-preserved
loop-key-preserved c =
    c.loop-key.invariant ∙ first_unknown-known c.args.known.now _ c.in-Some.key.now _ c.in-Some.ensures.steps (sym (rw (c.as_str.ensures.value) at c.if-not-is_known.ensures))
