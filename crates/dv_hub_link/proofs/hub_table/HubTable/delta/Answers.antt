use Rattle.dv_hub_link.proofs.Vocabulary.{Err, HubRow, IsLeastClash, LentList, List, Ok, [], ap, delivered, err_from_is_err_and, filter_map, hashes_of, hub_hashed, hub_place, hub_row_of, sym, told, ◌∙◌, ◌∷◌}
use Rattle.dv_hub_link.proofs.{Clashes.filter_map-map, HubItems.are_items, HubWindows.answers_held, HubWindows.answers_next, HubWindows.hub_row_has, KeyDeltas.fault_collides, KeyDeltas.made_are}
use Rattle.dv_hub_link.proofs.hub_table.HubTable.delta.Goals as goal

pub lists_for-requires-clause-items : goal.lists_for-requires-clause-items
lists_for-requires-clause-items g c κs within = are_items c.args.catalog.now (delivered c.args.items.now) c.requires.items

pub returns-in_err-lists : goal.returns-in_err-lists
returns-in_err-lists g c =
    let hashes = hashes_of g.H.KeyDigest.function in
    let p = err_from_is_err_and c.from_residual-in_err-lists.result c.from_residual-in_err-lists.ensures.1 in
    let rows = c.self.inside.held.rows in
    let clash = fault_collides (List LentList) (List HubRow) c.in_err-lists.field-0.0 (IsLeastClash (hub_hashed c.args.catalog.now hashes rows (delivered c.args.items.now))) c.in_err-lists.ensures.collision in
    rw (p.1, p.2, ← c.self.view_is)
    (record {
      apart = tt;
      rows = tt;
      collision = clash;
      whole = tt;
      batch = λ hub older window. answers_next c.args.catalog.now hashes hub older window rows c.args.load (delivered c.args.items.now) (Err c.in_err-lists.field-0.0) tt tt clash;
      held = λ hub older window. answers_held c.args.catalog.now hashes hub older window rows c.args.load (delivered c.args.items.now) (Err c.in_err-lists.field-0.0) tt tt clash;
    })

pub returns : goal.returns
returns g c =
    let hashes = hashes_of g.H.KeyDigest.function in
    let rows = c.self.inside.held.rows in
    let made =
    made_are hub_place (λ row. row.key ∷ []) hashes (hub_row_of c.args.catalog.now c.args.load) c.args.load
    (λ list row e. (hub_row_has c.args.catalog.now c.args.load list row e).0) (λ list row e. (hub_row_has c.args.catalog.now c.args.load list row e).1)
    c.args.catalog.now rows c.in_ok-lists.ensures.kept (rw (← c.self.view_is) at c.requires.dated) (delivered c.args.items.now)
    (are_items c.args.catalog.now (delivered c.args.items.now) c.requires.items) c.in_ok-lists.ensures.apart
    c.in_ok-rows.rows (rw c.items.ensures at c.in_ok-rows.ensures ∙ sym (filter_map-map (hub_row_of c.args.catalog.now c.args.load) told c.in_ok-lists.lists) ∙ ap (filter_map (hub_row_of c.args.catalog.now c.args.load)) c.in_ok-lists.ensures.lists) in
    rw (← c.self.view_is)
    (record {
      apart = c.in_ok-lists.ensures.apart;
      rows = made.0;
      collision = tt;
      whole = made.1;
      batch = λ hub older window. answers_next c.args.catalog.now hashes hub older window rows c.args.load (delivered c.args.items.now) (Ok c.in_ok-rows.rows) c.in_ok-lists.ensures.apart made.0 tt;
      held = λ hub older window. answers_held c.args.catalog.now hashes hub older window rows c.args.load (delivered c.args.items.now) (Ok c.in_ok-rows.rows) c.in_ok-lists.ensures.apart made.0 tt;
    })

pub missing_for-requires : goal.missing_for-requires
missing_for-requires g c = are_items c.args.catalog.now (delivered c.args.items.now) c.requires.items
