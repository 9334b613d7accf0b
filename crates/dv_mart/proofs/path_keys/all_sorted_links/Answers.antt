use Rattle.dv_mart.proofs.Vocabulary.{link_feed_at}
use Rattle.dv_mart.proofs.path_keys.all_sorted_links.Goals as goal

pub sorted_links-requires-clause-feed : goal.sorted_links-requires-clause-feed
sorted_links-requires-clause-feed c = link_feed_at c.args.vault.now.mapping c.args.feeds.now c.loop-feed.feed-index c.requires.feeds c.loop-feed-test.true
