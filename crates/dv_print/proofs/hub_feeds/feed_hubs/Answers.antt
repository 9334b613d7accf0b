use Rattle.dv_print.proofs.HubFeeds.{link_within}
use Rattle.dv_print.proofs.hub_feeds.feed_hubs.Goals as goal

pub link-requires : goal.link-requires
link-requires c = link_within c.args.catalog.now c.feed_count.ensures.valid c.args.feed c.feed.result.now c.feed.ensures c.in-Link.link c.in-Link.is
