use Rattle.dv_print.proofs.Vocabulary.{bridge_hub_columns, flat_map, take, ◌++◌, ◌≡◌}
use Rattle.dv_print.proofs.bridge_texts.push_feeds.Given as goal

abbrev pub invariant-loop-feed : goal.invariant-loop-feed
invariant-loop-feed l = l.header ≡ l.initial.header ++ flat_map (bridge_hub_columns l.fn.catalog) (take l.feed-index l.feeds)
