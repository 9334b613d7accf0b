use Rattle.dv_contents.proofs.Vocabulary.{[], ap, map, ◌++◌, ◌∙◌, ◌∷◌}
use Rattle.dv_contents.proofs.ContentFacts.{hub_within, link_within, refs_of_hub, refs_of_link}
use Rattle.dv_contents.proofs.lenders.Lender.refs.Goals as goal

pub hub-requires : goal.hub-requires
hub-requires c = hub_within c.args.self.now.vault.now.mapping c.args.parent c.in-Hub.hub c.requires c.in-Hub.is

pub link-requires : goal.link-requires
link-requires c = link_within c.args.self.now.vault.now.mapping c.args.parent c.in-Link.link c.requires c.in-Link.is

pub link_hubs-requires : goal.link_hubs-requires
link_hubs-requires c = link_within c.args.self.now.vault.now.mapping c.args.parent c.in-Link.link c.requires c.in-Link.is

pub returns-in_ok-push-in-Hub : goal.returns-in_ok-push-in-Hub
returns-in_ok-push-in-Hub c =
    refs_of_hub c.args.self.now.vault.now.mapping c.args.self.now.vault.now.tables c.args.parent c.in-Hub.hub c.args.digest.now c.hub.result.now.rows c.key.result c.in-Some.key (map (λ key. key.now) c.push.new.self)
    c.in-Hub.is c.hub.ensures c.key.ensures c.in-Some.is
    (ap (map (λ key. key.now)) ((c.in_ok-push-in-Hub.ensures {u = tt}).ok ∙ ap (λ l. l ++ c.in-Some.key ∷ []) (c.in_ok-refs-in-Hub.ensures {u = tt})))

pub returns-in_ok-refs-in-Link : goal.returns-in_ok-refs-in-Link
returns-in_ok-refs-in-Link c =
    refs_of_link c.args.self.now.vault.now.mapping c.args.self.now.vault.now.tables c.args.parent c.in-Link.link c.args.digest.now c.link.result.now.rows c.hubs.result c.in-Some-hubs.digests
    c.link_hubs.result.now c.items.result.now (map (λ key. key.now) c.in_ok-refs-in-Link.refs)
    c.in-Link.is c.link.ensures c.hubs.ensures c.in-Some-hubs.is c.link_hubs.ensures.value c.items.ensures (c.in_ok-refs-in-Link.ensures {u = tt})
