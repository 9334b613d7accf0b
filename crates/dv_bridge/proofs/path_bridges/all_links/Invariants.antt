use Rattle.dv_bridge.proofs.Vocabulary.{bare, feed_links, map, take, ℕ, ◌≡◌}
use Rattle.dv_bridge.proofs.path_bridges.all_links.Given as goal

-- the links of the first feeds
abbrev pub invariant-loop-feed : goal.invariant-loop-feed
invariant-loop-feed l = l.all.items ≡ map (λ (feed : ℕ). map bare (feed_links l.vault.mapping l.vault.tables l.date feed)) (take l.feed-index l.feeds)
