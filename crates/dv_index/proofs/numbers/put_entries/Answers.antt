use Rattle.dv_index.proofs.Vocabulary.{All-push, IsEntry, ap, arith, entry_at, length, length-map, length-range_with_len, map_push, parents_of, range_with_len, ◌+◌, ◌-◌}
use Rattle.dv_index.proofs.Ranges.{range_more}
use Rattle.dv_index.proofs.numbers.put_entries.Goals as goal

pub unreachable-requires : goal.unreachable-requires
unreachable-requires g c =
    let full = (c.in-Err.ensures {u = tt}).full in
    let items = ap length c.loop-number.invariant.items in
    let long = length-map (range_with_len c.args.start (c.loop-number.number - c.args.start)) (entry_at (parents_of g.R.Placed.place c.args.rows.now)) in
    let range = length-range_with_len c.args.start (c.loop-number.number - c.args.start) in
    let ok = c.loop-number.made.ok in
    omega arith

pub loop-number-preserved : goal.loop-number-preserved
loop-number-preserved g c =
    let parents = parents_of g.R.Placed.place c.args.rows.now in
    let pushed = (c.in-Ok.ensures {u = tt}).items in
    let more = range_more c.args.start (c.loop-number.number - c.args.start) (c.loop-number.number + 1 - c.args.start) c.loop-number.number (omega arith) (omega arith) in
    record {
      items = rw (more, map_push, ← c.loop-number.invariant.items, ← c.entry_at.ensures.value) pushed;
      each = rw pushed (All-push (IsEntry parents) c.loop-number.made.items c.entry_at.result c.loop-number.invariant.each c.entry_at.ensures.kept);
      room = omega (arith, (c.in-Ok.ensures {u = tt}).capacity);
    }
