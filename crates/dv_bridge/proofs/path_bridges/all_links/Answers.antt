use Rattle.dv_bridge.proofs.PathFeeds.{link_feed_at}
use Rattle.dv_bridge.proofs.path_bridges.all_links.Goals as goal

pub feed_links-requires : goal.feed_links-requires
feed_links-requires c = link_feed_at c.args.vault.now.mapping c.args.feeds.now c.loop-feed.feed-index c.requires c.loop-feed-test.true
