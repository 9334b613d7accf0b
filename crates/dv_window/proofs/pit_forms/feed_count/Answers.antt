use Rattle.dv_window.proofs.Vocabulary.{FeedDef, Hub, Some, ap, count_by, is_fed_by, sym, ◌∙◌}
use Rattle.dv_window.proofs.HubFeedCounts.{feeds_counted}
use Rattle.dv_window.proofs.pit_forms.feed_count.Goals as goal

pub returns : goal.returns
returns c =
    c.count_of.ensures
    ∙ ap (count_by (λ (feed : FeedDef). is_fed_by (Hub c.args.hub) (Some feed))) c.feeds.ensures.value
    ∙ sym (feeds_counted c.args.catalog.now c.args.hub)
