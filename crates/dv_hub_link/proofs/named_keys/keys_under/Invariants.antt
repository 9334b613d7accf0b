use Rattle.dv_hub_link.proofs.Vocabulary.{keys_under, ◌++◌, ◌≡◌}
use Rattle.dv_hub_link.proofs.named_keys.keys_under.Given as goal

abbrev pub invariant-loop-hub : goal.invariant-loop-hub
invariant-loop-hub g l =
    l.refs ++ keys_under l.catalog (g.N.HubNames.names l.names) l.hub-iterator.a.rest.now l.hub-iterator.b.rest.now ≡ keys_under l.catalog (g.N.HubNames.names l.names) l.hubs l.digests
