use Rattle.dv_index.proofs.Vocabulary.{None, Some, latest_at, refl, sym, ◌≡◌}
use Rattle.dv_index.proofs.Runs.{latest_parts, order_newer, order_older, runs_within}
use Rattle.dv_index.proofs.searches.latest.Goals as goal

pub split_at-requires : goal.split_at-requires
split_at-requires g c = runs_within g.R.Placed.place c.args.rows.now c.args.index.now c.args.recent.now c.requires.runs

pub latest_in-requires-clause-order : goal.latest_in-requires-clause-order
latest_in-requires-clause-order g c = order_newer g.R.Placed.place c.split_at.result.1.now c.split_at.result.0.now (rw c.split_at.ensures.by_index.0 at c.requires.order)

pub latest_in-requires-in-None-clause-order : goal.latest_in-requires-in-None-clause-order
latest_in-requires-in-None-clause-order g c = order_older g.R.Placed.place c.split_at.result.1.now c.split_at.result.0.now (rw c.split_at.ensures.by_index.0 at c.requires.order)

pub returns-in-Some : goal.returns-in-Some
returns-in-Some g c =
    let place = g.R.Placed.place in
    let older = c.split_at.result.0.now in
    let newer = c.split_at.result.1.now in
    let found : latest_at place newer c.args.parent.now c.args.date ≡ Some c.in-Some.row.now = rw c.in-Some.is at (sym c.latest_in.ensures) in
    rw (c.split_at.ensures.by_index.0, latest_parts place c.args.parent.now older newer c.args.date, found) refl

pub returns-in-None : goal.returns-in-None
returns-in-None g c =
    let place = g.R.Placed.place in
    let older = c.split_at.result.0.now in
    let newer = c.split_at.result.1.now in
    let none : latest_at place newer c.args.parent.now c.args.date ≡ None = rw c.in-None.is at (sym c.latest_in.ensures) in
    rw (c.split_at.ensures.by_index.0, latest_parts place c.args.parent.now older newer c.args.date, none) c.latest_in-in-None.ensures
