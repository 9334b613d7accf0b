use Rattle.dv_window_keys.proofs.Vocabulary.{Offer, Option, filter_map_more, offer_for, slice_get, sym, ℕ}
use Rattle.dv_window_keys.proofs.kept_items.chosen.Goals as goal

pub loop-number-preserved : goal.loop-number-preserved
loop-number-preserved c =
    let offer : ℕ → Option Offer = λ n. offer_for c.args.parent (slice_get c.args.items.now n) in
    let numbers = c.args.numbers.now in
    let i = c.loop-number.number-index in
    rw (c.in_ok-put_chosen.ensures, c.loop-number.invariant)
    (sym (filter_map_more offer numbers i 0 c.loop-number-test.true))
