use Rattle.dv_board.proofs.Vocabulary.{Keyed, Keys, Offerer, ap, arith, inr, sym, ◌∙◌}
use Rattle.dv_board.proofs.KeyCalls.{joins, known}
use Rattle.dv_board.proofs.key_table.KeyTable.join.Goals as goal

pub join_seat-requires : goal.join_seat-requires
join_seat-requires g c =
    let id = ap (λ (y : Keyed g.row.I.Denot). y.table) (sym c.self.view_is) in
    let seat = ap (λ (y : Offerer). y.table) c.seat.view_is ∙ (c.requires.seat.0 ∙ id) in
    let other = ap (λ (y : Offerer). y.table) c.other.view_is ∙ (c.requires.other.0 ∙ id) in
    let keys = ap (λ (y : Offerer). y.keys) c.seat.view_is ∙ c.requires.seat.1 in
    let classes = ap (λ (z : Keys). z.classes) keys in
    let homes = ap (λ (z : Keys). z.homes) keys in
    let words = c.self.invariant in
    let live = c.seat.invariant.1 in
    let k : Keys = g.I.KeyItems.keys c.args.self.now.items in
    (seat, other, c.other.invariant.0, omega (arith, words), λ s kept at apart there. inr (k, joins k _ _ _ _ live s (known _ k s _ _ kept at live c.seat.invariant.3 classes homes) at apart there))
