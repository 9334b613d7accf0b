use Rattle.dv_track.proofs.Vocabulary.{ap, arith, drop, take, take-add, ◌++◌, ◌+◌, ◌-◌, ◌∙◌, ◌≡◌}
use Rattle.dv_track.proofs.Removed.{moved_up}
use Rattle.dv_track.proofs.removals.move_up.Goals as goal

pub returns-then-place-from-clause-back : goal.returns-then-place-from-clause-back
returns-then-place-from-clause-back c =
    moved_up c.args.digests.now c.copy_within.new.self c.args.place c.args.from c.args.count (c.args.from + c.args.count - c.args.from) c.requires.order c.requires.bound (omega arith) c.copy_within.ensures.after

pub returns-else-place-from-clause-front : goal.returns-else-place-from-clause-front
returns-else-place-from-clause-front c =
    let here : c.args.place ≡ c.args.from = omega (arith, c.requires.order, c.if-place-from.false) in
    take-add c.args.place c.args.count c.args.digests.now ∙ ap (λ n. take c.args.place c.args.digests.now ++ take c.args.count (drop n c.args.digests.now)) here
