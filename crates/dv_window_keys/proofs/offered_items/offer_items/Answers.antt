use Rattle.dv_window_keys.proofs.Vocabulary.{List, Offerer, OffersMore, [], ap, arith, first_same, get_or, item_of, length, length-map, map, refl, subst, sym, ℕ, ◌++◌, ◌+◌, ◌∙◌, ◌≡◌}
use Rattle.dv_window_keys.proofs.OfferedItems.{more_both, more_none}
use Rattle.dv_window_keys.proofs.offered_items.offer_items.Goals as goal

pub chunks-init : goal.chunks-init
chunks-init g c = record {
  seat = refl;
  low = omega arith;
  high = c.requires.range.0;
  offers = more_none (map item_of c.args.items.now) c.args.from c.args.seat.now.offers;
}

pub offer_all-requires-clause-mine : goal.offer_all-requires-clause-mine
offer_all-requires-clause-mine g c κs within =
    let seat = c.chunks.invariant.seat in
    (ap (λ (s : Offerer). s.table) seat ∙ c.requires.mine.0, ap (λ (s : Offerer). s.keys) seat ∙ c.requires.mine.1)

pub offer_all-requires-clause-items : goal.offer_all-requires-clause-items
offer_all-requires-clause-items g c κs within = λ k d under.
    let all = c.args.table.now.items.items.now in
    let value = c.as_slice.ensures.value in
    let long = ap length value in
    let inside = c.full_numbers-numbers.ensures.inside k d (omega (arith, under, long)) in
    let same = ap length c.requires.items in
    let classes = length-map (map item_of all) (first_same (map item_of all)) in
    let mapped = length-map all item_of in
    let read = ap (λ (xs : List ℕ). get_or xs k d) value in
    omega (arith, inside, same, classes, mapped, read)

pub chunks-preserved : goal.chunks-preserved
chunks-preserved g c =
    let i = c.chunks.invariant in
    let items = map item_of c.args.items.now in
    let first = c.args.seat.now in
    let put = c.offer_all.ensures in
    let made : List ℕ = c.chunks.seat.offers ++ c.as_slice.result.now in
    let offers : c.offer_all.new.seat.offers ≡ made = ap (λ (s : Offerer). s.offers) put in
    let next = c.chunks.next in
    let end = next + c.min.result in
    let numbers = subst (OffersMore items next end []) (sym c.as_slice.ensures.value) c.full_numbers-numbers.ensures.numbers in
    let few = c.min.ensures in
    let low = i.low in
    let high = i.high in record {
      seat = put ∙ (ap (λ (s : Offerer). record s { offers = made }) i.seat ∙ ap (λ (o : List ℕ). record first { offers = o }) (sym offers));
      low = omega (arith, low);
      high = omega (arith, few, high);
      offers = subst (OffersMore items c.args.from end first.offers) (sym offers)
          (more_both items c.args.from next first.offers c.chunks.seat.offers i.offers end c.as_slice.result.now low (omega arith) numbers);
    }

pub returns : goal.returns
returns g c =
    let i = c.chunks.invariant in
    let items = map item_of c.args.items.now in
    let high = i.high in
    let test = c.chunks-test.false in
    let last : c.chunks.next ≡ c.args.to = omega (arith, high, test) in record {
      seat = i.seat;
      offers = subst (λ n. OffersMore items c.args.from n c.args.seat.now.offers c.chunks.seat.offers) last i.offers;
    }
