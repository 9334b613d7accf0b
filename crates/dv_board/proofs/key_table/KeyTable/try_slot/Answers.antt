use Rattle.dv_board.proofs.Vocabulary.{Keyed, Keys, Tells, ap, arith, begun, either, eqb, get_or, home_of, length, met_by, min, mod_below, offered, sym, true, ◌*◌, ◌+◌, ◌-◌, ◌<◌, ◌==◌, ◌∙◌, ◌≡◌}
use Rattle.dv_board.proofs.{KeyCalls.allows, KeyCalls.meets_as, KeyCalls.lowers_as, KeyProbes.meets_same, KeyProbes.met_on, KeyProbes.met_lists}
use Rattle.dv_board.proofs.key_table.KeyTable.try_slot.Goals as goal

pub compare_exchange-found-requires : goal.compare_exchange-found-requires
compare_exchange-found-requires g c =
    let r = c.requires in
    let items = ap (λ (y : Keyed g.row.I.Denot). y.items) c.self.view_is in
    let k : Keys = g.I.KeyItems.keys c.args.self.now.items in
    let bound = g.met.I.KeyItems g.world.𝓛 g.world.𝓜 g.world.𝓡 ((λ s x. x), (λ x. x), (λ x. x), λ x. x) in
    let law = bound.lawful c.args.self.now.items in
    let words = c.self.invariant.0 ∙ ap (λ (z : Keys). 3 * length z.classes + 1) (ap g.I.KeyItems.keys items) in
    let slot = r.slot in
    let low = mod_below (get_or k.homes c.args.item 0) (2 * length k.classes + 1) (omega arith) in
    let inside = r.inside in
    let room : c.args.slot < 3 * length k.classes + 1 = omega (arith, slot, low, inside) in (
      r.mine ∙ ap (λ (y : Keyed g.row.I.Denot). y.table) (sym c.self.view_is),
      omega (arith, room, words),
      allows _ k _ _ _ _ (λ n. either (eqb n 0) (c.from-word.result + 1) n) (Tells c.args.seat.now.me.0 (c.from-word.result + 1 - 1) c.args.seat.now.me.1)
          r.probing.live r.share r.classes r.homes (meets_as k law _ _ _ _ c.args.item _ c.from-word.ensures r.probing.live r.item r.probing.item r.probing.fresh slot room),
    )

pub fetch_min-requires : goal.fetch_min-requires
fetch_min-requires g c =
    let r = c.requires in
    let items = ap (λ (y : Keyed g.row.I.Denot). y.items) c.self.view_is in
    let k : Keys = g.I.KeyItems.keys c.args.self.now.items in
    let bound = g.met.I.KeyItems g.world.𝓛 g.world.𝓜 g.world.𝓡 ((λ s x. x), (λ x. x), (λ x. x), λ x. x) in
    let law = bound.lawful c.args.self.now.items in
    let words = c.self.invariant.0 ∙ ap (λ (z : Keys). 3 * length z.classes + 1) (ap g.I.KeyItems.keys items) in
    let v = c.args.seat.now.me.0 in
    let a = c.args.item in
    let n = c.compare_exchange-found.result in
    let w = c.compare_exchange-found.new.seat.me.0 in
    let back : c.from-word.result + 1 - 1 ≡ a = (let e = c.from-word.ensures in omega (arith, e)) in
    let now : w ≡ met_by (begun v a) n = ap (λ m. m.0) c.compare_exchange-found.ensures.2.0 ∙ ap (λ y. met_by (begun v y) n) back in
    let same : (get_or k.classes (n - 1) 0 == get_or k.classes a 0) ≡ true =
    ap (λ (z : Keys). get_or z.classes (n - 1) 0 == get_or z.classes a 0) (ap g.I.KeyItems.keys (sym items)) ∙ (sym c.same-is_same.ensures ∙ c.if-is_same.true) in
    let is = now ∙ meets_same v a n k.classes r.classes r.probing.item c.if-found-eq0.false same in
    let m = met_on v a w is r.probing.item r.probing.live in
    let lists = met_lists v a w is in
    let slot = r.slot in
    let place : c.args.slot ≡ home_of k w.item + w.passed = (let p = m.4 in let h = ap (home_of k) m.3 in omega (arith, slot, p, h)) in
    let low = mod_below (get_or k.homes a 0) (2 * length k.classes + 1) (omega arith) in
    let inside = r.inside in
    let room : c.args.slot < 3 * length k.classes + 1 = omega (arith, slot, low, inside) in
    let share = r.share in
    let shares = lists.2 in (
      c.compare_exchange-found.ensures.0 ∙ (r.mine ∙ ap (λ (y : Keyed g.row.I.Denot). y.table) (sym c.self.view_is)),
      omega (arith, room, words),
      allows _ k _ _ _ _ (λ n. min n (c.from-word.result + 1)) (λ n after. after ≡ (offered w, c.compare_exchange-found.new.seat.me.1))
          m.0 (omega (arith, share, shares)) (lists.0 ∙ r.classes) (lists.1 ∙ r.homes) (lowers_as k law _ _ _ _ _ (c.from-word.ensures ∙ sym m.3) m.0 m.1 m.2 place room),
    )
