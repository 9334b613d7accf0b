use Rattle.dv_window_keys.proofs.Vocabulary.{Option, [], ap, hub_items, item_of, map, option_to_list, ℕ, ◌++◌, ◌∙◌, ◌∷◌}
use Rattle.dv_window_keys.proofs.{GatheredItems.item_put, GatheredItems.items_ended, SortedOffers.got_here}
use Rattle.dv_window_keys.proofs.gathered_items.add_key_items.Goals as goal

pub loop-place-preserved : goal.loop-place-preserved
loop-place-preserved g c =
    let here = got_here c.args.refs.now c.loop-place.place c.index-refs-place.result c.loop-place-test.true c.index-refs-place.is in
    let put = c.in_ok-add_key_item.ensures {u = tt} in record {
      items = item_put c.args.feed c.args.hubs.now c.args.refs.now c.loop-place.place _ _ c.loop-place.invariant.items c.index-refs-place.result here _
          (put.items ∙ ap (λ (hub : Option ℕ). map item_of c.loop-place.items.items ++ hub_items c.args.feed (option_to_list hub) (c.index-refs-place.result ∷ [])) c.hub_at.ensures);
      told = put.told;
    }

pub returns : goal.returns
returns g c = record {
  items = items_ended c.args.feed c.args.hubs.now c.args.refs.now c.loop-place.place _ _ c.loop-place.invariant.items c.loop-place-test.false;
  told = c.loop-place.invariant.told;
}
