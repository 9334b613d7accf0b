use Rattle.dv_index.proofs.Vocabulary.{arith, fits_at, length, length-map, numbers_of, parents_of, ◌++◌, ◌+◌}
use Rattle.dv_index.proofs.RowsBefore.{least_fit}
use Rattle.dv_index.proofs.successions.newer_fit_count.Goals as goal

pub returns-clause-fit : goal.returns-clause-fit
returns-clause-fit g c =
    let place = g.R.Placed.place in
    let older = c.args.older.now in
    let newer = c.args.newer.now in
    let index = c.args.recent.now in
    least_fit (parents_of place newer) (numbers_of index) c.requires.newer.index (λ k. fits_at place (g.S.Succession.fits c.args.succession.now) (older ++ newer) (length older + k)) c.loop-place.place c.loop-place.least
    (rw length-map c.loop-place.invariant) (omega (arith, length-map index (λ entry. entry.number), c.loop-place-test.false))
