use Rattle.dv_board.proofs.Vocabulary.{AreLeastOffered, AreMarked, Bool, Keyed, Keys, List, Offerer, ap, arith, false, length, length-replicate, marked, subst, sym, ℕ, ◌∙◌, ◌≡◌}
use Rattle.dv_board.proofs.{KeyCalls.known, KeyClosing.closes}
use Rattle.dv_board.proofs.key_table.KeyTable.close.Goals as goal

pub returns-clause-least : goal.returns-clause-least
returns-clause-least g c =
    let inv = c.self.invariant in
    let bound = g.met.I.KeyItems g.world.𝓛 g.world.𝓜 g.world.𝓡 ((λ s x. x), (λ x. x), (λ x. x), λ x. x) in
    let k : Keys = g.I.KeyItems.keys c.args.self.items in
    let count = ap (λ (z : Keys). length z.classes) (ap g.I.KeyItems.keys (ap (λ (y : Keyed g.row.I.Denot). y.items) c.self.view_is)) in
    let keys = ap (λ (y : Offerer). y.keys) c.seat.view_is ∙ c.requires.mine.1 in
    let f = c.close_with-closed.ensures.values.2 in
    let s = f.0 in
    let holds = known _ k s _ _ f.1.0 f.1.1 c.seat.invariant.1 c.seat.invariant.3 (ap (λ (z : Keys). z.classes) keys) (ap (λ (z : Keys). z.homes) keys) in
    let marks = c.mark_taken.new.marks.items in
    let size = holds.sized in
    let slots = c.word_count-slots.ensures in
    let all : c.word_count-slots.result ≡ length s.words = omega (arith, slots, inv, size, count) in
    let are : AreMarked s.words (length s.words) marks =
    subst (λ (z : List ℕ × ℕ). AreMarked z.0 z.1 marks) (λ i. (sym f.2 i, all i)) c.mark_taken.ensures.marks in
    let whole = ap (λ (y : Offerer). y.share) c.seat.view_is ∙ c.requires.whole in
    let given = c.deref.ensures.value in
    let long : length c.deref.result.now ≡ length k.classes =
    ap length given ∙ (c.mark_taken.ensures.len ∙ (ap length inv.3 ∙ (length-replicate (length (g.I.KeyItems.keys c.self.inside.items).classes) false ∙ count))) in
    let listed : marked marks (length k.classes) ≡ c.list_marked.result.items =
    sym (c.list_marked.ensures ∙ ap (λ (z : List Bool × ℕ). marked z.0 z.1) (λ i. (given i, long i))) in
    subst (λ (z : List ℕ × List ℕ). AreLeastOffered k z.0 z.1) (λ i. (ap (λ (y : Offerer). y.offers) c.seat.view_is i, listed i))
    (closes k (bound.lawful c.args.self.items) s _ _ marks holds f.1.1 whole are)
