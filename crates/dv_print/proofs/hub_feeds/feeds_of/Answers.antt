use Rattle.dv_print.proofs.Vocabulary.{refl, sym, ◌∙◌}
use Rattle.dv_print.proofs.{HubFeeds.fed_pushed, HubFeeds.next_other, hub_feeds.feeds_of.Goals.then-is_of_hub+in_ok-push, hub_feeds.feeds_of.Goals.else-is_of_hub}
use Rattle.dv_print.proofs.hub_feeds.feeds_of.Goals as goal

pub loop-place-preserved : goal.loop-place-preserved
loop-place-preserved c =
    elim c.if-is_of_hub.branch [
      | then-is_of_hub+in_ok-push w ↦
          rw (w.found-is, w.in_ok-push.ensures.items)
          (fed_pushed c.args.catalog.now c.args.hub c.loop-place.place (record { place = c.loop-place.place; definition = c.feed-definition.result }) c.loop-place.found.items
          c.feed-definition.ensures (sym c.is_of_hub.ensures ∙ w.if-is_of_hub.true) refl c.loop-place.invariant)
      | else-is_of_hub w ↦
          rw w.found-is (c.loop-place.invariant.0 ∙ sym (next_other c.args.catalog.now c.args.hub c.loop-place.place c.feed-definition.result.now c.feed-definition.ensures (sym c.is_of_hub.ensures ∙ w.if-is_of_hub.false)), c.loop-place.invariant.1)
    ]
