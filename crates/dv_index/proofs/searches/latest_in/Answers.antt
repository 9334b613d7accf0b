use Rattle.dv_index.proofs.Vocabulary.{arith, length-map, numbers_of, ◌∙◌}
use Rattle.dv_index.proofs.Latest.{latest_is}
use Rattle.dv_index.proofs.searches.latest_in.Goals as goal

pub returns : goal.returns
returns g c =
    c.row_before.ensures
    ∙ latest_is g.R.Placed.place c.args.rows.now (numbers_of c.args.index.now) c.requires.index.index c.args.parent.now c.args.date c.reached_count.result (omega (arith, c.reached_count.ensures.within, length-map c.args.index.now (λ entry. entry.number))) c.reached_count.ensures.point
