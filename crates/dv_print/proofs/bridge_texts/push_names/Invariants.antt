use Rattle.dv_print.proofs.Vocabulary.{feed_name, map, slice_get, take, ◌++◌, ◌≡◌}
use Rattle.dv_print.proofs.bridge_texts.push_names.Given as goal

abbrev pub invariant-loop-feed : goal.invariant-loop-feed
invariant-loop-feed l = l.header ≡ l.initial.header ++ map (λ feed. feed_name (slice_get l.fn.catalog.feeds feed)) (take l.feed-index l.feeds)
