use Rattle.dv_board.proofs.Vocabulary.{BoardId, Claimant, ap, arith, rules, sym, ◌∙◌}
use Rattle.dv_board.proofs.BoardMoves.{splits}
use Rattle.dv_board.proofs.board.Board.cut.Goals as goal

pub split_seat-other-requires : goal.split_seat-other-requires
split_seat-other-requires g c =
    let picked = c.requires.picked in
    let share = c.requires.share in
    let had = ap (λ (y : Claimant). y.share) c.seat.view_is in
    let seat = ap (λ (y : Claimant). y.board.table) c.seat.view_is ∙ (ap (λ (y : BoardId). y.table) c.requires.mine ∙ ap (λ (y : BoardId). y.table) (sym c.self.view_is)) in
    (seat, search rules, splits _ _ _ _ c.seat.invariant.1 (omega (arith, picked, share)) (omega (arith, picked, share, had)))
