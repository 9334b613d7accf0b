use Rattle.dv_index.proofs.Vocabulary.{arith}
use Rattle.dv_index.proofs.Runs.{older_entries, runs_length, runs_within}
use Rattle.dv_index.proofs.walks.whole_index.Goals as goal

pub grow-requires-clause-fewer : goal.grow-requires-clause-fewer
grow-requires-clause-fewer g c =
    rw (c.in_ok-extend_from_slice.ensures.items, c.in_ok-whole.ensures.items) (runs_within g.R.Placed.place c.args.rows.now c.args.index.now c.args.recent.now c.requires)

pub grow-requires-clause-index : goal.grow-requires-clause-index
grow-requires-clause-index g c =
    rw (c.in_ok-extend_from_slice.ensures.items, c.in_ok-whole.ensures.items) (older_entries g.R.Placed.place c.args.rows.now c.args.index.now c.args.recent.now c.requires)

pub grow-requires-clause-arrivals_room : goal.grow-requires-clause-arrivals_room
grow-requires-clause-arrivals_room g c =
    rw (c.in_ok-extend_from_slice.ensures.items, c.in_ok-whole.ensures.items)
    (omega (arith, runs_length g.R.Placed.place c.args.rows.now c.args.index.now c.args.recent.now c.requires, c.in_ok-arrivals.ensures.capacity))
