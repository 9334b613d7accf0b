use Rattle.dv_index.proofs.Vocabulary.{arith, length, ◌≡◌}
use Rattle.dv_index.proofs.Runs.{first_newer, whole_runs}
use Rattle.dv_index.proofs.merges.grow_runs.Goals as goal

pub grow-requires-clause-index : goal.grow-requires-clause-index
grow-requires-clause-index g c =
    let start : c.len.result ≡ length c.args.index.now.items = omega (arith, c.len.ensures, c.args.index.now.ok) in
    rw (c.split_at.ensures.back, start) (first_newer g.R.Placed.place c.args.rows.now c.args.index.now.items c.args.recent.now.items c.requires.runs)

pub returns-else-newer-capacity-clause-runs : goal.returns-else-newer-capacity-clause-runs
returns-else-newer-capacity-clause-runs g c =
    rw c.clear.ensures.items (whole_runs g.R.Placed.place c.args.rows.now c.grow-else-newer-capacity.new.index.items c.grow-else-newer-capacity.ensures.index)
