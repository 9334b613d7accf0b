use Rattle.dv_board.proofs.Vocabulary.{Keyed, Keys, ap, arith, begun, cond, is_settled_by, length, offered, subst, sym, ◌*◌, ◌+◌, ◌-◌, ◌<◌, ◌∙◌, ◌≡◌, ◌≢◌}
use Rattle.dv_board.proofs.{KeyCalls.allows, KeyLooks.looks}
use Rattle.dv_board.proofs.key_table.KeyTable.is_settled.Goals as goal

pub load-found-requires : goal.load-found-requires
load-found-requires g c =
    let r = c.requires in
    let items = ap (λ (y : Keyed g.row.I.Denot). y.items) c.self.view_is in
    let k : Keys = g.I.KeyItems.keys c.args.self.now.items in
    let words = c.self.invariant.0 ∙ ap (λ (z : Keys). 3 * length z.classes + 1) (ap g.I.KeyItems.keys items) in
    let slot = r.slot in
    let me = c.args.seat.now.me in
    let a = g.O.Offer.item in (
      r.mine ∙ ap (λ (y : Keyed g.row.I.Denot). y.table) (sym c.self.view_is),
      omega (arith, slot, words),
      allows _ k _ _ _ _ (λ n. n) (λ n after. (after ≡ (cond (is_settled_by me.0 a n) (offered (begun me.0 a)) me.0, me.1)) × (n ≢ 0 → n - 1 < length me.0.classes))
          r.probing.live r.share r.classes r.homes (looks k _ _ _ _ a r.probing.live r.classes (subst (λ x. (begun me.0 x).item ≡ x) r.picked r.probing.item)),
    )
