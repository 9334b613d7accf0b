use Rattle.dv_window_keys.proofs.Vocabulary.{All, All-push, HasKeys, HashedExtract, [], ap, hashes_of, map, map-append, subst, sym, take_more, ◌++◌, ◌∙◌, ◌∷◌}
use Rattle.dv_window_keys.proofs.hashed_windows.hash_all.Goals as goal

pub loop-staged-preserved : goal.loop-staged-preserved
loop-staged-preserved g c =
    let keys = HasKeys (hashes_of g.H.KeyDigest.function) in
    let made = c.loop-staged.made in
    let extract = c.in_ok-of.field-0 in
    let pushed = c.in_ok-push.ensures.ok in
    let more = take_more c.args.extracts.now c.loop-staged.staged-index c.staged-item.result c.loop-staged-test.true in
    let same = map-append (λ (extract : HashedExtract). extract.staged.now) made (extract ∷ []) ∙ (λ i. c.loop-staged.invariant.0 i ++ (c.in_ok-of.ensures.staged ∙ c.staged-item.is) i ∷ []) ∙ sym more in
    (ap (map (λ (extract : HashedExtract). extract.staged.now)) pushed ∙ same, subst (All keys) (sym pushed) (All-push keys made extract c.loop-staged.invariant.1 c.in_ok-of.ensures.keys))
