use Rattle.dv_track.proofs.Vocabulary.{IsStrictlySortedBy-filter, [], ap, arith, digest_cmp, drop, drop_all, drop_more, is_lt, length, length-drop, missing_in, refl, sym, take, take_all, take_at, ◌++◌, ◌+◌, ◌-◌, ◌∙◌, ◌∷◌, ◌≡◌}
use Rattle.dv_track.proofs.{Amongst.ascending-drop, Removed.none_out, Removed.out_more}
use Rattle.dv_track.proofs.removals.take_out.Goals as goal

pub loop-other-preserved : goal.loop-other-preserved
loop-other-preserved c =
    let others = c.args.others.now in
    let i = c.loop-other.other-index in
    let from = c.loop-other.from in
    let other = c.other-item.result in
    let old = c.loop-other.digests.items in
    let made = c.move_up.new.digests in
    let so_far = c.loop-other.invariant in
    let value = c.deref_mut.ensures.value in
    let read = c.deref.ensures.value in
    let rest : take (length old - from) (drop from old) ≡ drop from old = take_all (length old - from) (drop from old) (omega (arith, length-drop from old)) in
    let first = rw (read, rest) at c.bounds-count.ensures.before in
    let last = rw (read, rest) at c.bounds-count.ensures.behind in
    let bound = rw (read, rest) at c.bounds-count.ensures.bound in
    let long = c.move_up.ensures.len ∙ ap length value in
    let next : take c.loop-other.digests.len (made ++ drop (length made) old) ≡ made = take_at made (drop (length made) old) c.loop-other.digests.len (omega (arith, long, c.loop-other.digests.ok)) in
    let more : drop i others ≡ other ∷ drop (i + 1) others = drop_more others i other c.loop-other-test.true ∙ rw (← c.other-item.is) refl in
    let ordered = rw more at (ascending-drop others i c.requires.others) in
    let step =
    out_more other (drop (i + 1) others) old made c.loop-other.kept from c.bounds-count.result.0 c.bounds-count.result.1 ordered so_far.order first last c.bounds-count.ensures.order
    (rw value at c.move_up.ensures.front) (rw value at c.move_up.ensures.back) in
    record {
      items = rw next (step.0 ∙ ap (λ l. take c.loop-other.kept old ++ missing_in l (drop from old)) (sym more) ∙ so_far.items);
      order = rw (next, step.1) (IsStrictlySortedBy-filter digest_cmp (λ digest. is_lt (digest_cmp other digest)) (drop from old) so_far.order);
      kept = omega (arith, so_far.kept, c.bounds-count.ensures.order);
      from = rw next (omega (arith, long, bound, length-drop from old, so_far.from));
      long = ap length next ∙ long ∙ so_far.long;
      capacity = so_far.capacity;
    }

pub returns-clause-items : goal.returns-clause-items
returns-clause-items c =
    let from = c.loop-other.from in
    let old = c.loop-other.digests.items in
    let made = c.move_up-2.new.digests in
    let so_far = c.loop-other.invariant in
    let value = c.deref_mut-2.ensures.value in
    let long = c.move_up-2.ensures.len ∙ ap length value in
    let next : take c.loop-other.digests.len (made ++ drop (length made) old) ≡ made = take_at made (drop (length made) old) c.loop-other.digests.len (omega (arith, long, c.loop-other.digests.ok)) in
    let gone : drop c.loop-other.other-index c.args.others.now ≡ [] = drop_all c.loop-other.other-index c.args.others.now (omega arith) in
    let rest : take (c.len.result - from) (drop from old) ≡ drop from old = take_all (c.len.result - from) (drop from old) (omega (arith, length-drop from old, c.len.ensures, c.loop-other.digests.ok)) in
    c.truncate.ensures.items
    ∙ rw (next, rw value at c.move_up-2.ensures.front, rest) refl
    ∙ ap (λ l. take c.loop-other.kept old ++ l) (sym (none_out (drop from old)) ∙ ap (λ l. missing_in l (drop from old)) (sym gone))
    ∙ so_far.items
