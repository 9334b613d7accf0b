use Rattle.dv_print.proofs.Vocabulary.{feed_name, flat_map, slice_get, take, ◌++◌, ◌∷◌, ◌≡◌}
use Rattle.dv_print.proofs.windows_texts.push_names.Given as goal

abbrev pub invariant-loop-feed : goal.invariant-loop-feed
invariant-loop-feed l = l.names.items ≡ l.initial.names.items ++ flat_map (λ feed. 32 ∷ feed_name (slice_get l.catalog.feeds feed)) (take l.feed-index l.feeds)
