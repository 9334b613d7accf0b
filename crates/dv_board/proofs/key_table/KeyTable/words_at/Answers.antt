use Rattle.dv_board.proofs.Vocabulary.{Keyed, KeyView, Keys, Me, ap, arith, length, refl, sym, ◌*◌, ◌+◌, ◌-◌, ◌<◌, ◌∙◌, ◌≡◌, ◌≢◌, ℕ}
use Rattle.dv_board.proofs.{KeyCalls.allows, KeyLooks.no_words, KeyLooks.peeks}
use Rattle.dv_board.proofs.key_table.KeyTable.words_at.Goals as goal

pub words-init : goal.words-init
words-init g c = record { mine = refl; stays = refl; words = (refl, λ place full. absurd (full (no_words place))) }

pub load-requires : goal.load-requires
load-requires g c =
    let r = c.requires in
    let items = ap (λ (y : Keyed g.row.I.Denot). y.items) c.self.view_is in
    let k : Keys = g.I.KeyItems.keys c.args.self.now.items in
    let words = c.self.invariant.0 ∙ ap (λ (z : Keys). 3 * length z.classes + 1) (ap g.I.KeyItems.keys items) in
    let slot = r.slots.1 c.words.place c.words-test.true in
    let view = ap (λ (m : Me ℕ KeyView). m.0) c.words.invariant.stays in
    let classes = ap (λ (v : KeyView). v.classes) view ∙ r.classes in
    let share = ap (λ (v : KeyView). v.share) view in
    let some = r.live.1 in (
      c.words.invariant.mine ∙ (r.mine ∙ ap (λ (y : Keyed g.row.I.Denot). y.table) (sym c.self.view_is)),
      omega (arith, slot, words),
      allows _ k _ _ _ _ (λ n. n) (λ n after. (after ≡ c.words.seat.me) × (n ≢ 0 → n - 1 < length c.words.seat.me.0.classes))
          (ap (λ (v : KeyView). v.is_spent) view ∙ r.live.0) (omega (arith, share, some)) classes (ap (λ (v : KeyView). v.homes) view ∙ r.homes) (peeks k _ _ _ _ classes),
    )
