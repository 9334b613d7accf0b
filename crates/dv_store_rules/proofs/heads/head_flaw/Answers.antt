use Rattle.dv_store_rules.proofs.Vocabulary.{Some, ap, head_rule, length, refl, slice_get-get_or, sym, ◌∙◌}
use Rattle.dv_store_rules.proofs.FirstFlaws.{clear_fewer, clear_more, flaw_is, no_flaw}
use Rattle.dv_store_rules.proofs.heads.head_flaw.Goals as goal

pub returns-then-not-is_head : goal.returns-then-not-is_head
returns-then-not-is_head c =
    let heads = c.args.heads.now in
    let place = c.loop-place.place in
    let head = c.index-heads-place.result in
    let there = slice_get-get_or heads place head c.loop-place-test.true ∙ ap Some (sym c.index-heads-place.is) in
    sym (flaw_is (head_rule c.args.catalog.now) heads _ (record { place = place; numbered = refl; clear = c.loop-place.invariant; breaks = (head, there, rw (← c.if-not-is_head.ensures) refl) }))

pub loop-place-preserved : goal.loop-place-preserved
loop-place-preserved c =
    let heads = c.args.heads.now in
    let place = c.loop-place.place in
    let head = c.index-heads-place.result in
    let there = slice_get-get_or heads place head c.loop-place-test.true ∙ ap Some (sym c.index-heads-place.is) in
    clear_more (head_rule c.args.catalog.now) heads place head there (rw (← c.if-not-is_head.ensures) refl) c.loop-place.invariant

pub returns : goal.returns
returns c =
    let heads = c.args.heads.now in
    sym (no_flaw (head_rule c.args.catalog.now) heads (clear_fewer (head_rule c.args.catalog.now) heads (length heads) c.loop-place.place c.loop-place-test.false c.loop-place.invariant))
