use Rattle.dv_app.proofs.Vocabulary.{IfOk-weaker, hashes_of}
use Rattle.dv_app.proofs.ExerciseSteps.{counts_so, exercised_so, kinds_so}
use Rattle.dv_app.proofs.exercises.load_and_count.Goals as goal

pub counts_text-requires : goal.counts_text-requires
counts_text-requires g c = record { kinds = kinds_so (hashes_of g.H.KeyDigest.function) c.args.items 4 _ _ c.vault.ensures c.in_ok-load_all.ensures }

pub returns : goal.returns
returns g c =
    IfOk-weaker c.counts_text.result _ _
    (λ text is. exercised_so (hashes_of g.H.KeyDigest.function) c.args.items text
    (counts_so (hashes_of g.H.KeyDigest.function) c.args.items 4 _ _ c.vault.ensures c.in_ok-load_all.ensures _ text c.load_date.ensures is))
    c.counts_text.ensures
