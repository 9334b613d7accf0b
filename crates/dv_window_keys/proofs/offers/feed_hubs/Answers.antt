use Rattle.dv_window_keys.proofs.SortedOffers.{link_declared}
use Rattle.dv_window_keys.proofs.offers.feed_hubs.Goals as goal

pub link-requires : goal.link-requires
link-requires c = link_declared c.args.catalog.now c.feed_count.ensures.valid c.args.feed c.feed.result.now c.feed.ensures c.in-Link.link c.in-Link.is
