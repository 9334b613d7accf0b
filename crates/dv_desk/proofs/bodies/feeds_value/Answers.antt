use Rattle.dv_desk.proofs.Vocabulary.{feed_data, get_or, refl}
use Rattle.dv_desk.proofs.Listed.{all_listed, one_more}
use Rattle.dv_desk.proofs.bodies.feeds_value.Goals as goal

pub loop-feed-init : goal.loop-feed-init
loop-feed-init c = rw c.in_ok-names.ensures.items refl

pub loop-feed-preserved : goal.loop-feed-preserved
loop-feed-preserved c = one_more (feed_data c.args.catalog.now) c.args.feeds.now c.loop-feed.feed-index 0 (get_or c.args.feeds.now c.loop-feed.feed-index 0) c.loop-feed-test.true refl
    c.loop-feed.names.items _ _ c.in_ok-push.ensures.items c.in_ok-feed_value.ensures c.loop-feed.invariant

pub returns : goal.returns
returns c = all_listed (feed_data c.args.catalog.now) c.args.feeds.now c.loop-feed.feed-index c.loop-feed.names c.loop-feed-test.false c.loop-feed.invariant
