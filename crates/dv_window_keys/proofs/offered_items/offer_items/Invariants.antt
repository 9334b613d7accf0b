use Rattle.dv_window_keys.proofs.Vocabulary.{OffersMore, item_of, map, ◌-◌, ◌≡◌, ◌≤◌}
use Rattle.dv_window_keys.proofs.offered_items.offer_items.Given as goal

abbrev pub invariant-chunks : goal.invariant-chunks
invariant-chunks g l = record {
  seat : l.seat ≡ record l.initial.seat { offers = l.seat.offers };
  low : l.from ≤ l.next;
  high : l.next ≤ l.to;
  offers : OffersMore (map item_of l.items) l.from l.next l.initial.seat.offers l.seat.offers;
}

abbrev pub decreases-chunks : goal.decreases-chunks
decreases-chunks g l = l.to - l.next
