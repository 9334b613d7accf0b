use Rattle.dv_app.proofs.Vocabulary.{feed_line}
use Rattle.dv_app.proofs.GeneratedSteps.{numbered_part}
use Rattle.dv_app.proofs.counts.push_feeds.Goals as goal

pub loop-feed-preserved : goal.loop-feed-preserved
loop-feed-preserved c = λ hashes sealed has.
    numbered_part (feed_line c.args.vault.now.mapping sealed c.args.date) c.loop-feed.feed c.args.text.now.items c.loop-feed.text.items _
    (c.loop-feed.invariant hashes sealed has) (c.in_ok-push_feed.ensures hashes sealed has)
