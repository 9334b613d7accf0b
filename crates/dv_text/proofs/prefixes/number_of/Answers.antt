use Rattle.dv_text.proofs.Vocabulary.{ap, arith, drop, suc, sym, zero, ◌+◌, ◌-◌, ◌∙◌, ◌≡◌}
use Rattle.dv_text.proofs.PrefixFacts.{byte_more, spelt_more}
unfoldable use Rattle.dv_text.proofs.Vocabulary.{spelt}
use Rattle.dv_text.proofs.prefixes.number_of.Goals as goal

pub overflow_mul-number : goal.overflow_mul-number
overflow_mul-number c = let more = byte_more c.loop-place.place c.loop-place.number 0 (omega (arith, c.loop-place-test.true)) c.loop-place.invariant.within (omega arith) in omega (arith, more.1)

pub overflow_add-number : goal.overflow_add-number
overflow_add-number c = let more = byte_more c.loop-place.place c.loop-place.number c.byte_at.result (omega (arith, c.loop-place-test.true)) c.loop-place.invariant.within (omega arith) in omega (arith, more.1)

pub loop-place-preserved : goal.loop-place-preserved
loop-place-preserved c =
    let place = c.loop-place.place in
    let left : 16 - place ≡ suc (16 - (place + 1)) = omega (arith, c.loop-place-test.true) in
    record {
      value =
          sym (spelt_more (16 - (place + 1)) c.loop-place.number place c.byte_at.result c.args.bytes.now c.byte_at.ensures (omega arith))
          ∙ ap (λ k. spelt k c.loop-place.number (drop place c.args.bytes.now)) (sym left)
          ∙ c.loop-place.invariant.value;
      within = (byte_more place c.loop-place.number c.byte_at.result (omega (arith, c.loop-place-test.true)) c.loop-place.invariant.within (omega arith)).0;
    }

pub returns : goal.returns
unfolding spelt
returns c =
    let none : 16 - c.loop-place.place ≡ zero = omega (arith, c.loop-place-test.false) in
    sym (ap (λ k. spelt k c.loop-place.number (drop c.loop-place.place c.args.bytes.now)) none) ∙ c.loop-place.invariant.value
