use Rattle.dv_index.proofs.Vocabulary.{fits_at, length, numbers_of, ◌++◌, ◌+◌}
use Rattle.dv_index.proofs.RowsBefore.{IsLeast}
use Rattle.dv_index.proofs.successions.newer_fit_count.Given as goal

-- the least number so far of a newer row that doesn't fit
abbrev pub invariant-loop-place : goal.invariant-loop-place
invariant-loop-place g l = IsLeast (λ k. fits_at g.R.Placed.place (g.S.Succession.fits l.succession) (l.older ++ l.newer) (length l.older + k)) (length l.newer) (numbers_of l.recent) l.place l.least
