-- The deliveries of a window are its offers, each list once, by the first feed.
use Rattle.dv_records.proofs.Vocabulary.{Contains, Contains-map, Delivery, Key, List, Mapping, Parent, Some, Window, any_refs, ap, arith, common_steps, deliveries, filter_map_member, finds, first_offer, found_member, is_offered, key_cmp-IsAntisymmetric, map_member, member_after_sort}
use Rattle.dv_records.proofs.Vocabulary.{member_of_filter_map, offered_refs, offers, refs_cmp, refs_eq, refs_eq-Decides, rules, slice_cmp-IsAntisymmetric, sorted_by, true, ◌↔◌, ◌∙◌, ◌≡◌}

module _ (mapping : Mapping) (parent : Parent) (window : Window) where
  -- a list that is offered is among those that are, and the other way round
  pub offered_member : (refs : List Key) → is_offered mapping parent window refs ≡ true → Contains (offered_refs mapping parent window) refs
  offered_member refs = (any_refs (λ (offer : Delivery). offer.refs) (offers mapping parent window) refs).0

  pub is_offered-member : (refs : List Key) → Contains (offered_refs mapping parent window) refs → is_offered mapping parent window refs ≡ true
  is_offered-member refs = (any_refs (λ (offer : Delivery). offer.refs) (offers mapping parent window) refs).1

  -- the first offer of a list has the list, and is an offer
  pub first_offer-refs : (refs : List Key) (item : Delivery) → first_offer mapping parent window refs ≡ Some item → item.refs ≡ refs
  first_offer-refs refs item e = search (rules, refs_eq-Decides, found_member)

  pub first_offer-member : (refs : List Key) (item : Delivery) → first_offer mapping parent window refs ≡ Some item → Contains (offers mapping parent window) item
  first_offer-member refs item e = (found_member (λ (offer : Delivery). refs_eq offer.refs refs) (offers mapping parent window) item e).0

  -- a list that is offered has a first offer
  pub has_first_offer : (refs : List Key) → Contains (offered_refs mapping parent window) refs → (item : Delivery) × (first_offer mapping parent window refs ≡ Some item)
  has_first_offer refs has =
      let (offer, member, is) = map_member (λ (offer : Delivery). offer.refs) (offers mapping parent window) refs has in
      finds (λ (offer : Delivery). refs_eq offer.refs refs) (offers mapping parent window) offer member ((refs_eq-Decides offer.refs refs).1 is)

  sorted_has : (refs : List Key) → Contains (offered_refs mapping parent window) refs → Contains (sorted_by refs_cmp (offered_refs mapping parent window)) refs
  sorted_has refs = member_after_sort refs_cmp (offered_refs mapping parent window) refs (λ x member e. slice_cmp-IsAntisymmetric key_cmp-IsAntisymmetric x refs e)

  -- an item is a delivery exactly where it is the first offer of its list
  pub deliveries_member : (item : Delivery) → Contains (deliveries mapping parent window) item ↔ (first_offer mapping parent window item.refs ≡ Some item)
  deliveries_member item = (
    λ has.
        let (refs, member, e) = filter_map_member (first_offer mapping parent window) (sorted_by refs_cmp (offered_refs mapping parent window)) item has in
        ap (first_offer mapping parent window) (first_offer-refs refs item e) ∙ e,
    λ e.
        let within = Contains-map (λ (offer : Delivery). offer.refs) (offers mapping parent window) item (first_offer-member item.refs item e) in
        member_of_filter_map (first_offer mapping parent window) (sorted_by refs_cmp (offered_refs mapping parent window)) item.refs item (sorted_has item.refs within) e,
  )

  -- a delivery's list is offered
  pub delivery-offered : (item : Delivery) → Contains (deliveries mapping parent window) item → Contains (offered_refs mapping parent window) item.refs
  delivery-offered item has = grind (arith, common_steps, first_offer-member item.refs item ((deliveries_member item).0 has), deliveries_member item)

  -- no two deliveries have one list
  pub deliveries-apart : (a b : Delivery) → Contains (deliveries mapping parent window) a → Contains (deliveries mapping parent window) b → a.refs ≡ b.refs → a ≡ b
  deliveries-apart a b a_in b_in e = grind (arith, common_steps, deliveries_member a, deliveries_member b)
