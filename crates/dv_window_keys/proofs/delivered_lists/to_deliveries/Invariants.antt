use Rattle.dv_window_keys.proofs.Vocabulary.{delivery_to, hashes_of, keyed, map, offered_by, take, ◌≡◌}
use Rattle.dv_window_keys.proofs.delivered_lists.to_deliveries.Given as goal

abbrev pub invariant-loop-offer : goal.invariant-loop-offer
invariant-loop-offer g l = map keyed l.items ≡ map (λ offer. delivery_to l.table (offered_by (hashes_of g.H.KeyDigest.function) offer)) (take l.offer-index l.offers)
