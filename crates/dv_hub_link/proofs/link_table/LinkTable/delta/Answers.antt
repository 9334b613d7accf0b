use Rattle.dv_hub_link.proofs.Vocabulary.{Err, IsLeastClash, LentList, LinkRow, List, Ok, Some, all_hashed, ap, are_of_links, delivered, err_from_is_err_and, hashes_of, hubs_of, keys_under, link_place, link_row, map, map-map, stored, subst, sym, told, true, ◌∙◌, ◌≡◌}
use Rattle.dv_hub_link.proofs.{KeyDeltas.fault_collides, KeyDeltas.made_are, KeyDeltas.map_filter, LinkItems.are_items, LinkItems.items_of_links, LinkWindows.answers_held, LinkWindows.answers_next, LinkWindows.link_row_digest, LinkWindows.link_row_load, LinkWindows.told_apart}
use Rattle.dv_hub_link.proofs.{LinkWindows.told_least}
use Rattle.dv_hub_link.proofs.link_table.LinkTable.delta.Goals as goal

pub hubs_of-requires : goal.hubs_of-requires
hubs_of-requires g c = subst (λ l. are_of_links c.args.catalog.now (delivered l) ≡ true) (sym c.items.ensures) (items_of_links c.args.catalog.now (delivered c.args.items.now) c.requires.items)

pub lists_for-requires-clause-items : goal.lists_for-requires-clause-items
lists_for-requires-clause-items g c κs within = are_items c.args.catalog.now (delivered c.args.items.now) c.requires.items

pub returns-in_err-lists : goal.returns-in_err-lists
returns-in_err-lists g c =
    let hashes = hashes_of g.H.KeyDigest.function in
    let names = g.N.HubNames.names c.args.names.now in
    let p = err_from_is_err_and c.from_residual-in_err-lists.result c.from_residual-in_err-lists.ensures.1 in
    let rows = c.self.inside.held.rows in
    let clash =
    told_least c.args.catalog.now hashes names rows (delivered c.args.items.now) (Err c.in_err-lists.field-0.0) c.hubs_of.result.now (c.hubs_of.ensures ∙ ap (λ l. hubs_of c.args.catalog.now (delivered l)) c.items.ensures)
    (fault_collides (List LentList) (List LinkRow) c.in_err-lists.field-0.0
    (IsLeastClash (all_hashed c.args.catalog.now hashes (stored c.args.catalog.now names c.hubs_of.result.now rows) (delivered c.args.items.now))) c.in_err-lists.ensures.collision) in
    rw (p.1, p.2, ← c.self.view_is)
    (record {
      apart = tt;
      rows = tt;
      collision = clash;
      whole = tt;
      batch = λ link older window. answers_next c.args.catalog.now hashes names link older window rows c.args.load (delivered c.args.items.now) (Err c.in_err-lists.field-0.0) tt tt clash;
      held = λ link older window. answers_held c.args.catalog.now hashes names link older window rows c.args.load (delivered c.args.items.now) (Err c.in_err-lists.field-0.0) tt tt clash;
    })

pub returns : goal.returns
returns g c =
    let hashes = hashes_of g.H.KeyDigest.function in
    let names = g.N.HubNames.names c.args.names.now in
    let rows = c.self.inside.held.rows in
    let row_of = link_row c.args.catalog.now hashes c.args.load in
    let apart =
    told_apart c.args.catalog.now hashes names rows (delivered c.args.items.now) (Ok c.in_ok-rows.rows) c.hubs_of.result.now (c.hubs_of.ensures ∙ ap (λ l. hubs_of c.args.catalog.now (delivered l)) c.items.ensures)
    c.in_ok-lists.ensures.apart in
    let made =
    made_are link_place (λ row. keys_under c.args.catalog.now names c.hubs_of.result.now row.hubs) hashes (λ list. Some (row_of list)) c.args.load
    (link_row_digest c.args.catalog.now hashes c.args.load) (link_row_load c.args.catalog.now hashes c.args.load)
    c.args.catalog.now rows c.in_ok-lists.ensures.kept (rw (← c.self.view_is) at c.requires.dated) (delivered c.args.items.now)
    (are_items c.args.catalog.now (delivered c.args.items.now) c.requires.items) c.in_ok-lists.ensures.apart c.in_ok-rows.rows
    (rw c.items-2.ensures at c.in_ok-rows.ensures ∙ sym (map-map row_of told c.in_ok-lists.lists) ∙ ap (map row_of) c.in_ok-lists.ensures.lists ∙ map_filter row_of _) in
    rw (← c.self.view_is)
    (record {
      apart = apart;
      rows = made.0;
      collision = tt;
      whole = made.1;
      batch = λ link older window. answers_next c.args.catalog.now hashes names link older window rows c.args.load (delivered c.args.items.now) (Ok c.in_ok-rows.rows) apart made.0 tt;
      held = λ link older window. answers_held c.args.catalog.now hashes names link older window rows c.args.load (delivered c.args.items.now) (Ok c.in_ok-rows.rows) apart made.0 tt;
    })

pub missing_for-requires : goal.missing_for-requires
missing_for-requires g c = are_items c.args.catalog.now (delivered c.args.items.now) c.requires.items
