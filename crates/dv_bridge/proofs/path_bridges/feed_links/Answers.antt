use Rattle.dv_bridge.proofs.Vocabulary.{List, StatusRow, ap, bare, links_at, map, sym, ◌∙◌}
use Rattle.dv_bridge.proofs.PathFeeds.{feed_within}
use Rattle.dv_bridge.proofs.path_bridges.feed_links.Goals as goal

pub status-requires : goal.status-requires
status-requires c = feed_within c.args.vault.now.mapping c.args.feed c.requires

pub returns : goal.returns
returns c =
    c.from_vec.ensures ∙ c.in_ok-found.ensures
    ∙ ap (map bare) (ap (λ (rows : List StatusRow). links_at c.links_of-links.result.now.rows rows c.args.date) c.status.ensures ∙ sym (c.links_of-links.ensures c.args.date))
