use Rattle.dv_index.proofs.Vocabulary.{ap, arith, get_or, last_of, latest_at, length, length-map, numbers_of, option_map, option_or, parents_of, refl, take, ◌<◌, ◌∙◌, ◌≡◌}
use Rattle.dv_index.proofs.{EntryOrder.no_entry, EntryOrder.number_at, Order.within, RowsBefore.before_is, Runs.mapped_or, Runs.newer_fits, Runs.order_older}
use Rattle.dv_index.proofs.successions.is_fit.Goals as goal

pub bounds-newer-recent : goal.bounds-newer-recent
bounds-newer-recent g c =
    let parents = parents_of g.R.Placed.place c.args.newer.now in
    let here = number_at parents c.args.recent.now c.args.place 0 no_entry c.requires.within in
    rw (here, length-map) at (within parents (numbers_of c.args.recent.now) c.requires.newer.index c.args.place 0 (rw length-map c.requires.within))

pub offset_bounds-newer-recent : goal.offset_bounds-newer-recent
offset_bounds-newer-recent g c = let inside = bounds-newer-recent g c in omega arith

pub latest_in-requires-clause-order : goal.latest_in-requires-clause-order
latest_in-requires-clause-order g c = order_older g.R.Placed.place c.args.newer.now c.args.older.now c.requires.order

pub returns : goal.returns
returns g c =
    let place = g.R.Placed.place in
    let older = c.args.older.now in
    let newer = c.args.newer.now in
    let index = c.args.recent.now in
    let numbers = numbers_of index in
    let row = c.index-newer-recent.result in
    let fits = g.S.Succession.fits c.args.succession.now in
    let here = number_at (parents_of place newer) index c.args.place 0 no_entry c.requires.within in
    let read : row ≡ get_or newer (get_or numbers c.args.place 0) row = rw here c.index-newer-recent.is in
    let among : c.args.place < length numbers = rw length-map c.requires.within in
    let inside : get_or numbers c.args.place 0 < length newer = rw length-map at (within (parents_of place newer) numbers c.requires.newer.index c.args.place 0 among) in
    let own = rw c.parent.ensures at c.row_before-last.ensures in
    let other = rw (c.parent-2.ensures, c.load.ensures) at c.latest_in.ensures in
    let last : option_map (λ row. row.now) c.or-last.result ≡ option_or (last_of place (take (get_or numbers c.args.place 0) newer) (place row).parent) (latest_at place older (place row).parent (place row).load) =
    rw (c.or-last.ensures, mapped_or (λ row. row.now) c.row_before-last.result c.latest_in.result, own, other, before_is place newer numbers c.requires.newer.index c.args.place among row read) refl in
    c.fits.ensures ∙ ap (λ last. fits last row) last
    ∙ newer_fits place fits older newer c.requires.order (get_or numbers c.args.place 0) row inside read
