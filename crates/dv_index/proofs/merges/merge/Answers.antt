use Rattle.dv_index.proofs.Vocabulary.{ap, arith, drop, get_or, length, length-take-le, parents_of, refl, take, take_at, ◌++◌, ◌-◌, ◌∙◌, ◌≡◌}
use Rattle.dv_index.proofs.{Merging.begins, Merging.ends, Merging.goes_on, EntryOrder.entry_lt, EntryOrder.entry_order, EntryOrder.no_entry}
use Rattle.dv_index.proofs.merges.merge.Goals as goal

pub loop-left-init : goal.loop-left-init
loop-left-init g c =
    let parents = parents_of g.R.Placed.place c.args.rows.now in
    let end : c.len-end.result ≡ length c.args.index.now.items = omega (arith, c.len-end.ensures, c.args.index.now.ok) in
    rw end (begins (entry_lt parents) (entry_order parents) c.args.index.now.items c.args.arrivals.now c.extend_from_slice.new.self.items c.requires.olds c.requires.news (c.in-Ok.ensures {u = tt}).items)

pub loop-left-preserved : goal.loop-left-preserved
loop-left-preserved g c =
    let parents = parents_of g.R.Placed.place c.args.rows.now in
    let value = c.deref_mut.ensures.value in
    let read = c.deref.ensures.value in
    let m = c.loop-left.invariant in
    let next : take c.loop-left.index.len (c.put_before.new.index ++ drop (length c.put_before.new.index) c.loop-left.index.items) ≡ c.put_before.new.index =
    take_at c.put_before.new.index (drop (length c.put_before.new.index) c.loop-left.index.items) c.loop-left.index.len (omega (arith, c.put_before.ensures.len, ap length value, c.loop-left.index.ok)) in
    let counted : length (take c.loop-left.end c.loop-left.index.items) ≡ c.loop-left.end = length-take-le c.loop-left.end c.loop-left.index.items (omega (arith, m.long, m.end_in)) in
    let within = rw read at c.count_up_to-place.ensures.within in
    let point = rw read at c.count_up_to-place.ensures.point in
    rw next
    (goes_on (entry_lt parents) (entry_order parents) c.args.index.now.items c.args.arrivals.now c.loop-left.index.items c.put_before.new.index c.loop-left.end c.loop-left.left (c.loop-left.left - 1) c.count_up_to-place.result
    (get_or c.args.arrivals.now (c.loop-left.left - 1) no_entry) no_entry m (omega arith) refl (omega (arith, within, counted)) point
    (c.put_before.ensures.len ∙ ap length value) (rw value at c.put_before.ensures.front) (rw value at c.put_before.ensures.back))

pub returns-clause-each : goal.returns-clause-each
returns-clause-each g c =
    let parents = parents_of g.R.Placed.place c.args.rows.now in
    let none : c.loop-left.left ≡ 0 = omega arith in
    (ends (entry_lt parents) (entry_order parents) c.args.index.now.items c.args.arrivals.now c.loop-left.index.items c.loop-left.end (rw none at c.loop-left.invariant)).0

pub returns-clause-ordered : goal.returns-clause-ordered
returns-clause-ordered g c =
    let parents = parents_of g.R.Placed.place c.args.rows.now in
    let none : c.loop-left.left ≡ 0 = omega arith in
    (ends (entry_lt parents) (entry_order parents) c.args.index.now.items c.args.arrivals.now c.loop-left.index.items c.loop-left.end (rw none at c.loop-left.invariant)).1
