use Rattle.dv_window_keys.proofs.Vocabulary.{Some, ap, arith, get_or, item_of, keys_length, length-map, map, option_map, same_class, slice_get, slice_get-get_or, slice_get-map, ◌∙◌, ◌≡◌}
use Rattle.dv_window_keys.proofs.items.WindowItemsKeyItems.same.Goals as goal

pub returns : goal.returns
returns c =
    let all = c.args.self.now.items.now in
    let items = map item_of all in
    let size = keys_length items in
    let long = length-map all item_of in
    let first = c.requires.first in
    let second = c.requires.second in
    let a = get_or all c.args.a c.index-self-a.result in
    let b = get_or all c.args.b c.index-self-b.result in
    let at_a : slice_get items c.args.a ≡ Some (item_of a) = slice_get-map item_of all c.args.a ∙ ap (option_map item_of) (slice_get-get_or all c.args.a c.index-self-a.result (omega (arith, size, long, first))) in
    let at_b : slice_get items c.args.b ≡ Some (item_of b) = slice_get-map item_of all c.args.b ∙ ap (option_map item_of) (slice_get-get_or all c.args.b c.index-self-b.result (omega (arith, size, long, second))) in
    c.is_same.ensures ∙ same_class items c.args.a c.args.b (item_of a) (item_of b) at_a at_b
