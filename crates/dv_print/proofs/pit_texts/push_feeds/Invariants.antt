use Rattle.dv_print.proofs.Vocabulary.{flat_map, map, pit_columns, take, told, ◌++◌, ◌≡◌}
use Rattle.dv_print.proofs.pit_texts.push_feeds.Given as goal

abbrev pub invariant-loop-feed : goal.invariant-loop-feed
invariant-loop-feed l = l.header ≡ l.initial.header ++ flat_map (λ feed. pit_columns feed.1) (map told (take l.feed-index l.feeds))
