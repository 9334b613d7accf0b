use Rattle.dv_window_keys.proofs.Vocabulary.{List, NRow, [], ap, flat_map, flat_map_more, hub_items, item_of, link_items, map, row_items, subst, sym, take, take_more, ◌++◌, ◌+◌, ◌∙◌, ◌∷◌, ◌≡◌}
use Rattle.dv_window_keys.proofs.gathered_items.add_feed_items.Goals as goal

pub loop-place-preserved : goal.loop-place-preserved
loop-place-preserved g c =
    let feed = c.args.extract.now.staged.now.feed in
    let rows = c.args.extract.now.staged.now.rows in
    let mapping = c.args.catalog.now in
    let place = c.loop-place.place in
    let row = c.row-item.result in
    let before = map item_of c.args.items.now.items in
    let put = c.in_ok-add_row_items.ensures {u = tt} in
    let more : take (place + 1) rows ≡ take place rows ++ row ∷ [] = subst (λ (rows : List NRow). take (place + 1) rows ≡ take place rows ++ row ∷ []) c.items-row-items.ensures
    (take_more c.items-row-items.result.now place row c.loop-place-test.true ∙ ap (λ row. take place c.items-row-items.result.now ++ row ∷ []) (sym c.row-item.is)) in record {
      items = put.items
          ∙ ((λ i. c.loop-place.invariant.items i ++ (hub_items feed (c.feed_hubs-hubs.ensures i) (c.items-refs.ensures i) ++ link_items feed (c.link_of-link.ensures i) (c.items-refs.ensures i)))
          ∙ (flat_map_more (row_items mapping feed) before (take place rows) row ∙ ap (λ rows. before ++ flat_map (row_items mapping feed) rows) (sym more)));
      told = put.told;
    }
