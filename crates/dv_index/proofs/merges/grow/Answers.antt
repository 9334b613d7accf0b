use Rattle.dv_index.proofs.Vocabulary.{arith, length, length-map, length-range_with_len, length_permutation, parents_of, ◌-◌, ◌≡◌}
use Rattle.dv_index.proofs.EntryOrder.{grown, olds_sorted}
use Rattle.dv_index.proofs.merges.grow.Goals as goal

pub merge-requires-clause-olds : goal.merge-requires-clause-olds
merge-requires-clause-olds g c =
    let long = length-map c.args.rows.now (λ row. (g.R.Placed.place row).parent) in
    olds_sorted (parents_of g.R.Placed.place c.args.rows.now) c.args.index.now.items (omega (arith, long, c.requires.fewer)) c.requires.index

pub merge-requires-clause-room : goal.merge-requires-clause-room
merge-requires-clause-room g c =
    let start : c.len.result ≡ length c.args.index.now.items = omega (arith, c.len.ensures, c.args.index.now.ok) in
    let moved = length_permutation c.put_entries.new.made.items c.sort_entries.new.index.items c.sort_entries.ensures.each in
    let count = length-range_with_len c.len.result (length c.args.rows.now - c.len.result) in
    let all = rw (c.put_entries.ensures.items, length-map, count) at moved in
    omega (arith, all, start, c.requires.room, c.requires.fewer)

pub returns-clause-index : goal.returns-clause-index
returns-clause-index g c =
    let long = length-map c.args.rows.now (λ row. (g.R.Placed.place row).parent) in
    let start : c.len.result ≡ length c.args.index.now.items = omega (arith, c.len.ensures, c.args.index.now.ok) in
    grown (parents_of g.R.Placed.place c.args.rows.now) c.args.index.now.items (omega (arith, long, c.requires.fewer)) c.requires.index c.put_entries.new.made.items c.sort_entries.new.index.items _
    (rw (long, ← start) c.put_entries.ensures.items) c.put_entries.ensures.each c.sort_entries.ensures.each (rw c.deref.ensures.value at c.merge.ensures.each) c.merge.ensures.ordered
