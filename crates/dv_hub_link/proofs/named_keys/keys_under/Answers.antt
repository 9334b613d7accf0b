use Rattle.dv_hub_link.proofs.Vocabulary.{[], ap, append-nil, inl, inr, key_under, map, sym, zip, ◌++◌, ◌∙◌, ◌≡◌}
use Rattle.dv_hub_link.proofs.Keys.{zip_ended}
use Rattle.dv_hub_link.proofs.named_keys.keys_under.Goals as goal

pub returns : goal.returns
returns g c =
    let ended : zip c.loop-hub.hub-iterator.a.rest.now c.loop-hub.hub-iterator.b.rest.now ≡ [] = elim c.in-None.ensures.steps [
      | inl (x, both) ↦ zip_ended _ _ (inl both.0)
      | inr (x, both) ↦ zip_ended _ _ (inr both.0)
    ] in
    sym (append-nil c.loop-hub.refs)
    ∙ ap (λ pairs. c.loop-hub.refs ++ map (λ (hub, digest). key_under c.args.catalog.now (g.N.HubNames.names c.args.names.now) hub digest) pairs) (sym ended)
    ∙ c.loop-hub.invariant
