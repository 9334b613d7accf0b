use Rattle.dv_board.proofs.Vocabulary.{Keyed, Keys, Offerer, ap, arith, inr, sym, ◌∙◌}
use Rattle.dv_board.proofs.KeyCalls.{splits, known}
use Rattle.dv_board.proofs.key_table.KeyTable.cut.Goals as goal

pub split_seat-other-requires : goal.split_seat-other-requires
split_seat-other-requires g c =
    let picked = c.requires.picked in
    let share = c.requires.share in
    let had = ap (λ (y : Offerer). y.share) c.seat.view_is in
    let table = ap (λ (y : Offerer). y.table) c.seat.view_is ∙ (c.requires.mine.0 ∙ ap (λ (y : Keyed g.row.I.Denot). y.table) (sym c.self.view_is)) in
    let keys = ap (λ (y : Offerer). y.keys) c.seat.view_is ∙ c.requires.mine.1 in
    let classes = ap (λ (z : Keys). z.classes) keys in
    let homes = ap (λ (z : Keys). z.homes) keys in
    let words = c.self.invariant in
    let live = c.seat.invariant.1 in
    let k : Keys = g.I.KeyItems.keys c.args.self.now.items in
    (table, omega (arith, words), λ s kept at. inr (k, splits k _ _ _ live (omega (arith, picked, share)) (omega (arith, picked, share, had)) s (known _ k s _ _ kept at live c.seat.invariant.3 classes homes) at))
