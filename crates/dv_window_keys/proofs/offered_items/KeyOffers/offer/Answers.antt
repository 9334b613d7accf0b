use Rattle.dv_window_keys.proofs.Vocabulary.{ItemRange, OffersMore, get_or_from_slice_get, item_of, map, subst}
use Rattle.dv_window_keys.proofs.offered_items.KeyOffers.offer.Goals as goal

pub offer_items-requires-clause-range : goal.offer_items-requires-clause-range
offer_items-requires-clause-range g c κs within = c.args.self.now.ranges_are c.args.task _ c.requires.task

pub returns : goal.returns
returns g c = record {
  seat = c.offer_items.ensures.seat;
  offers = λ range at.
      subst (λ (r : ItemRange). OffersMore (map item_of c.args.self.now.items.now) r.from r.to c.args.seat.now.offers c.offer_items.new.seat.offers)
      (get_or_from_slice_get c.args.self.now.ranges.now c.args.task range _ at) c.offer_items.ensures.offers;
}
