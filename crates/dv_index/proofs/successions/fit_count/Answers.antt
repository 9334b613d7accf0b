use Rattle.dv_index.proofs.Vocabulary.{arith, length, sym, ◌+◌, ◌<◌, ◌∙◌, ◌≡◌}
use Rattle.dv_index.proofs.Runs.{fit_parts, older_fits, order_older, runs_within}
use Rattle.dv_index.proofs.successions.fit_count.Goals as goal

pub split_at-requires : goal.split_at-requires
split_at-requires g c = runs_within g.R.Placed.place c.args.rows.now c.args.index.now c.args.recent.now c.requires.runs

pub newer_fit_count-count-requires-clause-order : goal.newer_fit_count-count-requires-clause-order
newer_fit_count-count-requires-clause-order g c = order_older g.R.Placed.place c.split_at.result.1.now c.split_at.result.0.now (rw c.split_at.ensures.by_index.0 at c.requires.order)

pub returns-then-count-older-clause-fit : goal.returns-then-count-older-clause-fit
returns-then-count-older-clause-fit g c number under =
    let fits = g.S.Succession.fits c.args.succession.now in
    let small : number < length c.split_at.result.0.now = omega (arith, c.if-count-older.true) in
    let from : 0 + number ≡ number = omega arith in
    rw c.split_at.ensures.by_index.0 (sym (older_fits g.R.Placed.place fits c.split_at.result.0.now c.split_at.result.1.now number small) ∙ rw from at (c.newer_fit_count-count.ensures.fit number under))

pub returns-then-count-older-clause-stops : goal.returns-then-count-older-clause-stops
returns-then-count-older-clause-stops g c under =
    let fits = g.S.Succession.fits c.args.succession.now in
    let count = c.newer_fit_count-count in
    let from : 0 + count.result ≡ count.result = omega arith in
    rw c.split_at.ensures.by_index.0 (sym (older_fits g.R.Placed.place fits c.split_at.result.0.now c.split_at.result.1.now count.result c.if-count-older.true) ∙ rw from at (count.ensures.stops c.if-count-older.true))

pub returns-clause-fit : goal.returns-clause-fit
returns-clause-fit g c number under =
    let fits = g.S.Succession.fits c.args.succession.now in
    let older = c.split_at.result.0.now in
    let count = c.newer_fit_count-count in
    let all : count.result ≡ length older = omega (arith, count.ensures.within, c.if-count-older.false) in
    rw c.split_at.ensures.by_index.0
    (fit_parts g.R.Placed.place fits older c.split_at.result.1.now c.newer_fit_count.result (λ k small. let from : 0 + k ≡ k = omega arith in rw from at (count.ensures.fit k (omega (arith, small, all)))) c.newer_fit_count.ensures.fit number (omega (arith, all)))
