use Rattle.dv_app.proofs.Vocabulary.{HasTaken, hashes_of}
use Rattle.dv_app.proofs.exercises.load_all.Given as goal

-- the windows so far are taken
abbrev pub invariant-loop-window : goal.invariant-loop-window
invariant-loop-window g l = HasTaken (hashes_of g.H.KeyDigest.function) l.items l.window l.office
