use Rattle.dv_board.proofs.Vocabulary.{Claimant, ap, arith, subst, sym, times, ◌+◌, ◌-◌, ◌∙◌, ◌≡◌, ◌≤◌}
use Rattle.dv_board.proofs.Sums.{times_last}
use Rattle.dv_board.proofs.tests.draw_all.Goals as goal

pub draws-preserved : goal.draws-preserved
draws-preserved c =
    let i = c.draws.invariant in
    let some = c.in-Some.ensures.some in
    let task = c.in-Some.task in
    let below = some.0 in
    let back : task ≡ task + 1 - 1 = omega arith in record {
      board = ap (λ (y : Claimant). y.board) some.1 ∙ i.board;
      fresh = ap (λ (y : Claimant). y.had_none) some.1 ∙ i.fresh;
      share = ap (λ (y : Claimant). y.share) some.1 ∙ i.share;
      latest = λ _. subst (λ n. 1 ≤ times n c.claim.new.seat.claims) back (subst (λ (y : Claimant). 1 ≤ times task y.claims) (sym some.1) (times_last c.draws.seat.claims task));
      last = omega (arith, below);
    }
