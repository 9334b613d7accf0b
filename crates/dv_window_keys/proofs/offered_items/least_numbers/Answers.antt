use Rattle.dv_window_keys.proofs.Vocabulary.{AreLeastOffered, List, Offerer, OffersMore, WindowItem, [], ap, item_of, keys_of, length, length-map, map, subst, sym, ℕ, ◌≡◌}
use Rattle.dv_window_keys.proofs.OfferedItems.{all_offered}
use Rattle.dv_window_keys.proofs.offered_items.least_numbers.Goals as goal

pub returns : goal.returns
returns c =
    let now = c.args.items.now in
    let items = map item_of now in
    let offers = c.offer_items.new.seat.offers in
    let none : c.in_ok-table.seat.offers ≡ [] = ap (λ (s : Offerer). s.offers) (c.in_ok-table.ensures {u = tt}).seat in record {
      mixing = c.in_ok-table.table.items.mixing;
      offers = offers;
      offered = all_offered items offers
          (subst (λ n. OffersMore items 0 n [] offers) (sym (length-map now item_of)) (subst (λ (before : List ℕ). OffersMore items 0 (length now) before offers) none c.offer_items.ensures.offers));
      least = subst (λ (all : List WindowItem). AreLeastOffered (keys_of c.in_ok-table.table.items.mixing (map item_of all)) offers c.close-numbers.result.1.items)
          (λ i. ((c.in_ok-table.ensures {u = tt}).items i).items.now) c.close-numbers.ensures.least;
    }
