use Rattle.dv_board.proofs.Vocabulary.{BoardId, Claimant, ap, arith, rules, sym, ◌∙◌}
use Rattle.dv_board.proofs.BoardMoves.{claims}
use Rattle.dv_board.proofs.board.Board.claim.Goals as goal

pub fetch_add-number-requires : goal.fetch_add-number-requires
fetch_add-number-requires c =
    let b = c.self.invariant in
    let fresh = ap (λ (y : Claimant). y.had_none) c.seat.view_is ∙ c.requires.fresh in
    let board = ap (λ (y : Claimant). y.board) c.seat.view_is ∙ (c.requires.mine ∙ sym c.self.view_is) in
    let tasks = ap (λ (y : BoardId). y.tasks) board ∙ sym b.0 in
    (ap (λ (y : BoardId). y.table) board, search rules, claims _ _ _ _ fresh c.seat.invariant.1 tasks (omega (arith, b)))
