use Rattle.dv_index.proofs.Vocabulary.{None, Some, append-nil, arith, get_or, last_row, length-map, map_push, numbers_of, parents_of, refl, slice_get-get_or, sym, ◌∙◌, ◌≡◌}
use Rattle.dv_index.proofs.{EntryOrder.no_entry, EntryOrder.number_at, Order.within, Walk.walk_more, walks.last_rows.Goals.then-is_last+in_ok-push, walks.last_rows.Goals.else-is_last}
use Rattle.dv_index.proofs.walks.last_rows.Goals as goal

pub bounds-rows-index : goal.bounds-rows-index
bounds-rows-index g c =
    let parents = parents_of g.R.Placed.place c.args.rows.now in
    let here = number_at parents c.args.index.now c.loop-place.place 0 no_entry c.loop-place-test.true in
    rw (here, length-map) at (within parents (numbers_of c.args.index.now) c.requires.index c.loop-place.place 0 (rw length-map c.loop-place-test.true))

pub offset_bounds-rows-index : goal.offset_bounds-rows-index
offset_bounds-rows-index g c = let inside = bounds-rows-index g c in omega arith

pub loop-place-preserved : goal.loop-place-preserved
loop-place-preserved g c =
    let h = last_row g.R.Placed.place c.args.rows.now (numbers_of c.args.index.now) c.args.date in
    elim c.if-is_last.branch [
      | then-is_last+in_ok-push w ↦
          let parents = parents_of g.R.Placed.place c.args.rows.now in
          let pushed = (w.in_ok-push.ensures {u = tt}).items in
          let last = sym c.is_last.ensures ∙ w.if-is_last.true in
          let here = number_at parents c.args.index.now c.loop-place.place 0 no_entry c.loop-place-test.true in
          let inside = rw (here, length-map) at (within parents (numbers_of c.args.index.now) c.requires.index c.loop-place.place 0 (rw length-map c.loop-place-test.true)) in
          let there = slice_get-get_or c.args.rows.now (get_or c.args.index.now c.loop-place.place no_entry).number w.index-rows-index.result inside in
          let row : h c.loop-place.place ≡ Some w.index-rows-index.result = rw (last, here, there, ← w.index-rows-index.is) refl in
          rw (w.found-is, pushed, map_push, c.loop-place.invariant, walk_more h c.loop-place.place (Some w.index-rows-index.result) row) refl
      | else-is_last w ↦
          let other = sym c.is_last.ensures ∙ w.if-is_last.false in
          let none : h c.loop-place.place ≡ None = rw other refl in
          rw (w.found-is, walk_more h c.loop-place.place None none, append-nil) c.loop-place.invariant
    ]
