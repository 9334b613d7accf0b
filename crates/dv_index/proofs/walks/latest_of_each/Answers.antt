use Rattle.dv_index.proofs.Vocabulary.{arith}
use Rattle.dv_index.proofs.Runs.{whole_entries}
use Rattle.dv_index.proofs.walks.latest_of_each.Goals as goal

pub latest_of_each_in-requires-clause-index : goal.latest_of_each_in-requires-clause-index
latest_of_each_in-requires-clause-index g c = whole_entries g.R.Placed.place c.args.rows.now c.args.index.now c.args.recent.now c.requires.runs (omega arith)
