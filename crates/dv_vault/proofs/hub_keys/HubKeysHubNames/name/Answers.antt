use Rattle.dv_vault.proofs.Vocabulary.{IsItemAt, ap, option_map, subst, sym, ◌∙◌}
use Rattle.dv_vault.proofs.NamedHubs.{name_there, no_name}
use Rattle.dv_vault.proofs.hub_keys.HubKeysHubNames.name.Goals as goal

pub returns-in_err-hub : goal.returns-in_err-hub
returns-in_err-hub c =
    ap (option_map (λ key. key.now)) c.from_residual.ensures
    ∙ sym (no_name c.args.self.now.hubs.items c.args.hub c.args.d.now c.get.result (subst (λ hubs. IsItemAt hubs c.args.hub c.get.result) c.deref.ensures.value c.get.ensures.lookup) (c.in_err-hub.was {u = tt}))

pub returns : goal.returns
returns c =
    c.key.ensures
    ∙ sym (name_there c.args.self.now.hubs.items c.args.hub c.args.d.now c.get.result c.in_ok-hub.hub (subst (λ hubs. IsItemAt hubs c.args.hub c.get.result) c.deref.ensures.value c.get.ensures.lookup) (c.in_ok-hub.was {u = tt}))
