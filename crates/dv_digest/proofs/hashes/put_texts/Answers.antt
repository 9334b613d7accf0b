use Rattle.dv_digest.proofs.Vocabulary.{[], ap, arith, joined, length, length-append, ◌∙◌, ◌∷◌}
use Rattle.dv_digest.proofs.Joins.{joined-cons, next_fits, all_put}
use Rattle.dv_digest.proofs.hashes.put_texts.Goals as goal

pub put_separator-requires : goal.put_separator-requires
put_separator-requires c =
    let whole = ap joined c.in-Some.ensures.cases.0 ∙ joined-cons c.in-Some.first.now c.in-Some.rest.now in
    let fits = next_fits (λ y. 59 ∷ y) _ _ _ _ _ c.in-Some.rest.now c.loop-text.text-index _ c.text-item.result c.loop-text-test.true c.text-item.is whole (rw c.bytes.ensures at c.put.ensures) c.loop-text.invariant c.requires in
    omega (arith, fits)

pub put-requires-in-loop-text : goal.put-requires-in-loop-text
put-requires-in-loop-text c =
    let whole = ap joined c.in-Some.ensures.cases.0 ∙ joined-cons c.in-Some.first.now c.in-Some.rest.now in
    let fits = next_fits (λ y. 59 ∷ y) _ _ _ _ _ c.in-Some.rest.now c.loop-text.text-index _ c.text-item.result c.loop-text-test.true c.text-item.is whole (rw c.bytes.ensures at c.put.ensures) c.loop-text.invariant c.requires in
    let longer = ap length c.put_separator.ensures ∙ length-append c.loop-text.room (59 ∷ []) in
    rw c.bytes-in-loop-text.ensures (omega (arith, fits, longer))

pub returns : goal.returns
returns c =
    let whole = ap joined c.in-Some.ensures.cases.0 ∙ joined-cons c.in-Some.first.now c.in-Some.rest.now in
    all_put (λ y. 59 ∷ y) _ _ _ _ _ c.in-Some.rest.now c.loop-text.text-index c.loop-text-test.false whole (rw c.bytes.ensures at c.put.ensures) c.loop-text.invariant
