use Rattle.dv_mart.proofs.Vocabulary.{All-push, FeedRows, IsStrictlySortedBy, any_content_read, refl, row_cmp, subst, sym}
use Rattle.dv_mart.proofs.HubContents.{contents_grow, read_ascends}
use Rattle.dv_mart.proofs.hub_contents.contents_of.Goals as goal

pub loop-feed-preserved : goal.loop-feed-preserved
loop-feed-preserved c =
    let mapping = c.args.vault.now.mapping in
    let tables = c.args.vault.now.tables in
    let one : FeedRows = record { feed = c.feed-item.result; rows = c.in_ok-rows.rows } in
    let order = subst (IsStrictlySortedBy row_cmp) (sym c.in_ok-rows.ensures.read) (read_ascends mapping tables c.feed-item.result.place c.args.date) in
    rw c.in_ok-push.ensures.items (
      contents_grow (λ feed. any_content_read mapping tables feed c.args.date) c.args.feeds.now c.loop-feed.feed-index c.feed-item.result c.loop-feed.contents.items one
          c.loop-feed-test.true c.feed-item.is c.loop-feed.invariant.0 refl c.in_ok-rows.ensures.read,
      All-push (λ (one : FeedRows). IsStrictlySortedBy row_cmp one.rows) c.loop-feed.contents.items one c.loop-feed.invariant.1 order,
    )
