use Rattle.dv_board.proofs.Vocabulary.{BoardId, Claimant, ap, arith, min, once_below, slice_index, sym, times, ◌∙◌, ◌≡◌}
use Rattle.dv_board.proofs.BoardMoves.{closes, first_word}
use Rattle.dv_board.proofs.board.Board.close.Goals as goal

pub returns-then-number-from-clause-each_once : goal.returns-then-number-from-clause-each_once
returns-then-number-from-clause-each_once c x =
    let b = c.self.inside in
    let f = c.close_with-closed.ensures.values.2 in
    let s = f.0 in
    let seen = f.1 in
    let word = ap (λ ws. slice_index ws 0) f.2 ∙ first_word _ _ c.word-number.ensures in
    let below = c.if-number-from.true in
    let from = c.from.ensures in
    let inv = c.self.invariant in
    let whole = ap (λ (y : Claimant). y.share) c.seat.view_is ∙ (c.requires.whole ∙ (ap (λ (y : BoardId). y.workers) (sym c.self.view_is) ∙ sym inv.1)) in
    let small : min (slice_index s.words 0) b.table.shared.key.tasks ≡ c.word-number.result = omega (arith, word, below, from, inv) in
    ap (λ (y : Claimant). times x y.claims) (sym c.seat.view_is) ∙ (closes _ s _ _ seen.0 seen.1 whole x ∙ ap (once_below x) small)

pub returns-then-number-from-clause-all : goal.returns-then-number-from-clause-all
returns-then-number-from-clause-all c had =
    let f = c.close_with-closed.ensures.values.2 in
    let seen = f.1 in
    let word = ap (λ ws. slice_index ws 0) f.2 ∙ first_word _ _ c.word-number.ensures in
    let below = c.if-number-from.true in
    let from = c.from.ensures in
    let inv = c.self.invariant in
    let past = (seen.0.each _ _ seen.1).past (ap (λ (y : Claimant). y.had_none) c.seat.view_is ∙ had) in
    absurd (omega (arith, word, below, from, inv, past))

pub returns-else-number-from-clause-each_once : goal.returns-else-number-from-clause-each_once
returns-else-number-from-clause-each_once c x =
    let b = c.self.inside in
    let f = c.close_with-closed.ensures.values.2 in
    let s = f.0 in
    let seen = f.1 in
    let word = ap (λ ws. slice_index ws 0) f.2 ∙ first_word _ _ c.word-number.ensures in
    let above = c.if-number-from.false in
    let from = c.from.ensures in
    let inv = c.self.invariant in
    let whole = ap (λ (y : Claimant). y.share) c.seat.view_is ∙ (c.requires.whole ∙ (ap (λ (y : BoardId). y.workers) (sym c.self.view_is) ∙ sym inv.1)) in
    let small : min (slice_index s.words 0) b.table.shared.key.tasks ≡ b.tasks = omega (arith, word, above, from, inv) in
    ap (λ (y : Claimant). times x y.claims) (sym c.seat.view_is) ∙ (closes _ s _ _ seen.0 seen.1 whole x ∙ ap (once_below x) small)
