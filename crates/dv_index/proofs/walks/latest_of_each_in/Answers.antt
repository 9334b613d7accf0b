use Rattle.dv_index.proofs.Vocabulary.{length-map, numbers_of, ◌∙◌}
use Rattle.dv_index.proofs.Walk.{walk_is}
use Rattle.dv_index.proofs.walks.latest_of_each_in.Goals as goal

pub returns : goal.returns
returns g c = c.in_ok-found.ensures ∙ rw length-map at (walk_is g.R.Placed.place c.args.rows.now (numbers_of c.args.index.now) c.requires.index.index c.requires.order c.args.date)
