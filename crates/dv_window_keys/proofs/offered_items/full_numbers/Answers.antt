use Rattle.dv_window_keys.proofs.Vocabulary.{OffersMore, [], ap, arith, item_of, length, map, offers_with, slice_get, subst, sym, ◌+◌, ◌≡◌}
use Rattle.dv_window_keys.proofs.OfferedItems.{more_none, more_step}
use Rattle.dv_window_keys.proofs.offered_items.full_numbers.Goals as goal

pub numbers-init : goal.numbers-init
numbers-init g c =
    let none = c.new-numbers.ensures in record {
      low = omega arith;
      high = c.requires.range.0;
      room = let count = ap length none in omega (arith, count);
      inside = λ k d under. let count = ap length none in absurd (omega (arith, under, count));
      offers = subst (OffersMore (map item_of c.args.items.now) c.args.from c.args.from []) (sym none) (more_none (map item_of c.args.items.now) c.args.from []);
    }

pub numbers-preserved : goal.numbers-preserved
numbers-preserved g c =
    let i = c.numbers.invariant in
    let items = map item_of c.args.items.now in
    let put = c.put_item.ensures in
    let test = c.numbers-test.true in
    let low = i.low in
    let room = i.room in
    let more = put.room in record {
      low = omega (arith, low);
      high = omega (arith, test);
      room = omega (arith, room, more);
      inside = put.inside;
      offers = subst (OffersMore items c.args.from (c.numbers.item + 1) []) (sym {b = offers_with c.numbers.item (slice_get items c.numbers.item) c.numbers.numbers.items} put.put) (more_step items c.args.from c.numbers.item [] c.numbers.numbers.items i.offers low);
    }

pub returns : goal.returns
returns g c =
    let i = c.numbers.invariant in
    let high = i.high in
    let test = c.numbers-test.false in
    let last : c.numbers.item ≡ c.args.to = omega (arith, high, test) in record {
      numbers = subst (λ n. OffersMore (map item_of c.args.items.now) c.args.from n [] c.numbers.numbers.items) last i.offers;
      inside = i.inside;
    }
