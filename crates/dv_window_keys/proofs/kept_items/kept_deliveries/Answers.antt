use Rattle.dv_window_keys.proofs.Vocabulary.{AreDeliveriesOf, IfOk, IfOk-weaker, Keyed, List, chosen, delivered, delivery_to, hashes_of, keyed, map, offered_by, subst, sym, ◌∙◌, ◌≡◌}
use Rattle.dv_window_keys.proofs.ItemDeliveries.{chosen_deliveries, chosen_fit, chosen_hashed, offer_delivery}
use Rattle.dv_window_keys.proofs.kept_items.kept_deliveries.Goals as goal

pub to_deliveries-requires-after_bounds : goal.to_deliveries-requires-after_bounds
to_deliveries-requires-after_bounds g c κs within =
    let kept = c.requires.kept in
    let mapping = c.args.catalog.now in
    let window = c.args.window.now in
    rw (c.deref-3.ensures.value, c.in_ok-offers.ensures, c.deref.ensures.value, c.deref-2.ensures.value)
    (chosen_fit mapping c.requires.valid window c.requires.window c.args.parent (chosen c.args.parent c.args.kept.now.items.items c.args.kept.now.numbers.items)
    (chosen_deliveries mapping c.args.parent window c.args.kept.now.items.items kept.items_are kept.least.mixing kept.least.offers c.args.kept.now.numbers.items kept.least.offered kept.least.least))

pub returns : goal.returns
returns g c =
    let hashes = hashes_of g.H.KeyDigest.function in
    let mapping = c.args.catalog.now in
    let parent = c.args.parent in
    let window = c.args.window.now in
    let kept = c.requires.kept in
    let items = c.args.kept.now.items.items in
    let numbers = c.args.kept.now.numbers.items in
    let whole : c.deref-3.result.now ≡ chosen parent items numbers = c.deref-3.ensures.value ∙ (c.in_ok-offers.ensures ∙ (λ i. chosen parent (c.deref.ensures.value i) (c.deref-2.ensures.value i))) in
    let (lists, hashed) = chosen_hashed hashes parent items numbers kept.told c.to_deliveries.result
    (subst (λ (all : List Keyed). IfOk c.to_deliveries.result (λ got. map keyed got ≡ all)) (λ i. map (λ offer. delivery_to (c.table_of.ensures i) (offered_by hashes offer)) (whole i)) c.to_deliveries.ensures) in
    record {
      items = IfOk-weaker c.to_deliveries.result (λ all. delivered all ≡ map (offer_delivery parent) (chosen parent items numbers)) (λ all. AreDeliveriesOf mapping parent window (delivered all))
          (λ all is. subst (AreDeliveriesOf mapping parent window) (sym is) (chosen_deliveries mapping parent window items kept.items_are kept.least.mixing kept.least.offers numbers kept.least.offered kept.least.least)) lists;
      hashed = hashed;
    }
