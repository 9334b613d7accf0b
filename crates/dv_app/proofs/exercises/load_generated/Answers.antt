use Rattle.dv_app.proofs.Vocabulary.{hashes_of, state_behind}
use Rattle.dv_app.proofs.ExerciseSteps.{one_more}
use Rattle.dv_app.proofs.exercises.load_generated.Goals as goal

pub load_window-requires-clause-ready : goal.load_window-requires-clause-ready
load_window-requires-clause-ready g c κs within = (state_behind (hashes_of g.H.KeyDigest.function) c.args.items c.args.window, c.requires.before.ready)

pub returns : goal.returns
returns g c = one_more (hashes_of g.H.KeyDigest.function) c.args.items c.args.window _ _ _ _ c.in_ok-given.ensures c.requires.before c.in_ok-load_window.ensures
