use Rattle.dv_index.proofs.Vocabulary.{arith, length, length-map, parents_of, ◌-◌, ◌≡◌}
use Rattle.dv_index.proofs.EntryOrder.{started}
use Rattle.dv_index.proofs.numbers.complete.Goals as goal

pub returns : goal.returns
returns g c =
    let long = length-map c.args.rows.now (λ row. (g.R.Placed.place row).parent) in
    let all : length c.args.rows.now - 0 ≡ length c.args.rows.now = omega arith in
    started (parents_of g.R.Placed.place c.args.rows.now) c.put_entries.new.made.items c.sort_entries.new.index.items (rw long (rw all at c.put_entries.ensures.items)) c.put_entries.ensures.each c.sort_entries.ensures.each c.sort_entries.ensures.ordered
