use Rattle.dv_board.proofs.Vocabulary.{BoardId, Claimant, ap, rules, sym, ◌∙◌}
use Rattle.dv_board.proofs.BoardMoves.{joins}
use Rattle.dv_board.proofs.board.Board.join.Goals as goal

pub join_seat-requires : goal.join_seat-requires
join_seat-requires c =
    let seat = ap (λ (y : Claimant). y.board.table) c.seat.view_is ∙ (ap (λ (y : BoardId). y.table) c.requires.mine.0 ∙ ap (λ (y : BoardId). y.table) (sym c.self.view_is)) in
    let other = ap (λ (y : Claimant). y.board.table) c.other.view_is ∙ (ap (λ (y : BoardId). y.table) c.requires.mine.1 ∙ ap (λ (y : BoardId). y.table) (sym c.self.view_is)) in
    (seat, other, c.other.invariant.0, search rules, joins _ _ _ _ _ c.seat.invariant.1 c.other.invariant.1)
