use Rattle.dv_bridge.proofs.Vocabulary.{Mapping, Some, link_declared, slice_get, subst, ◌≡◌}
use Rattle.dv_bridge.proofs.path_bridges.links_of.Goals as goal

pub link-requires : goal.link-requires
link-requires c =
    let at = subst (λ (m : Mapping). slice_get m.feeds c.args.feed ≡ Some c.feed.result.now) c.catalog.ensures.value c.feed.ensures in
    link_declared c.args.vault.now.mapping c.catalog.ensures.valid c.args.feed c.feed.result.now at c.in-Link.link c.in-Link.is
