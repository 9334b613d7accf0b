use Rattle.dv_window_keys.proofs.Vocabulary.{All, OffersMore, [], item_of, length, map, ◌+◌, ◌<◌, ◌≤◌}
use Rattle.dv_window_keys.proofs.offered_items.full_numbers.Given as goal

abbrev pub invariant-numbers : goal.invariant-numbers
invariant-numbers g l = record {
  low : l.from ≤ l.item;
  high : l.item ≤ l.to;
  room : length l.numbers.items + l.from ≤ l.item;
  inside : All (λ number. number < length l.items) l.numbers.items;
  offers : OffersMore (map item_of l.items) l.from l.item [] l.numbers.items;
}
