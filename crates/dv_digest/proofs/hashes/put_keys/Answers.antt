use Rattle.dv_digest.proofs.Vocabulary.{[], ap, arith, key_text, length, length-append, refs_text, ◌∙◌, ◌∷◌}
use Rattle.dv_digest.proofs.Joins.{refs_text-cons, next_fits, all_put}
use Rattle.dv_digest.proofs.hashes.put_keys.Goals as goal

pub put_separator-requires : goal.put_separator-requires
put_separator-requires c =
    let whole = ap refs_text c.in-Some.ensures.cases.0 ∙ refs_text-cons c.in-Some.first.now c.in-Some.rest.now in
    let fits = next_fits (λ y. 59 ∷ key_text y) _ _ _ _ _ c.in-Some.rest.now c.loop-key.key-index _ c.key-item.result c.loop-key-test.true c.key-item.is whole (rw c.items.ensures at c.put_texts.ensures) c.loop-key.invariant c.requires in
    omega (arith, fits)

pub put_texts-requires-in-loop-key : goal.put_texts-requires-in-loop-key
put_texts-requires-in-loop-key c =
    let whole = ap refs_text c.in-Some.ensures.cases.0 ∙ refs_text-cons c.in-Some.first.now c.in-Some.rest.now in
    let fits = next_fits (λ y. 59 ∷ key_text y) _ _ _ _ _ c.in-Some.rest.now c.loop-key.key-index _ c.key-item.result c.loop-key-test.true c.key-item.is whole (rw c.items.ensures at c.put_texts.ensures) c.loop-key.invariant c.requires in
    let longer = ap length c.put_separator.ensures ∙ length-append c.loop-key.room (59 ∷ []) in
    rw c.items-in-loop-key.ensures (omega (arith, fits, longer))

pub returns : goal.returns
returns c =
    let whole = ap refs_text c.in-Some.ensures.cases.0 ∙ refs_text-cons c.in-Some.first.now c.in-Some.rest.now in
    all_put (λ y. 59 ∷ key_text y) _ _ _ _ _ c.in-Some.rest.now c.loop-key.key-index c.loop-key-test.false whole (rw c.items.ensures at c.put_texts.ensures) c.loop-key.invariant
