use Rattle.dv_app.proofs.Vocabulary.{HasTaken, arith, hashes_of, subst, ◌≡◌}
use Rattle.dv_app.proofs.exercises.load_all.Goals as goal

pub returns : goal.returns
returns g c =
    let all : c.loop-window.window ≡ 4 = omega (arith, c.loop-window-test.false, c.loop-window.auto.window-end) in
    subst (λ n. HasTaken (hashes_of g.H.KeyDigest.function) c.args.items n c.loop-window.office) all c.loop-window.invariant
