use Rattle.dv_print.proofs.Vocabulary.{cell_columns, flat_map, map, take, told, ◌++◌, ◌≡◌}
use Rattle.dv_print.proofs.hub_texts.push_feeds.Given as goal

abbrev pub invariant-loop-feed : goal.invariant-loop-feed
invariant-loop-feed l = l.header ≡ l.initial.header ++ flat_map (λ feed. cell_columns feed.1) (map told (take l.feed-index l.feeds))
