use Rattle.dv_app.proofs.Vocabulary.{hashes_of, ◌∙◌}
use Rattle.dv_app.proofs.ExerciseSteps.{none_yet}
use Rattle.dv_app.proofs.exercises.exercise.Goals as goal

pub load_and_count-text-requires-clause-begun : goal.load_and_count-text-requires-clause-begun
load_and_count-text-requires-clause-begun g c κs within =
    none_yet (hashes_of g.H.KeyDigest.function) c.args.items _ (c.in_ok-loading.ensures.mapping ∙ c.in_ok-catalog.ensures)
    (c.in_ok-loading.ensures.begun (hashes_of g.H.KeyDigest.function)).ready
