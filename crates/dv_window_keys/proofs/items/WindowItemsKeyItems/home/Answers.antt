use Rattle.dv_window_keys.proofs.Vocabulary.{Some, ap, arith, get_or, home_at, item_of, keys_length, length-map, map, option_map, slice_get, slice_get-get_or, slice_get-map, sym, ◌∙◌, ◌≡◌}
use Rattle.dv_window_keys.proofs.items.WindowItemsKeyItems.home.Goals as goal

pub returns : goal.returns
returns c =
    let all = c.args.self.now.items.now in
    let items = map item_of all in
    let size = keys_length items in
    let long = length-map all item_of in
    let within = c.requires in
    let item = get_or all c.args.a c.index-self-a.result in
    let at : slice_get items c.args.a ≡ Some (item_of item) = slice_get-map item_of all c.args.a ∙ ap (option_map item_of) (slice_get-get_or all c.args.a c.index-self-a.result (omega (arith, size, long, within))) in
    c.item_home.ensures ∙ sym (home_at items c.args.self.now.mixing c.args.a (item_of item) at)
