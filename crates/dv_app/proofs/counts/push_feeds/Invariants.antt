use Rattle.dv_app.proofs.Vocabulary.{HasSealed, Hashes, List, Window, feed_line, flat_map, range_with_len, ◌++◌, ◌≡◌}
use Rattle.dv_app.proofs.counts.push_feeds.Given as goal

-- the lines of the feeds so far
abbrev pub invariant-loop-feed : goal.invariant-loop-feed
invariant-loop-feed l = (hashes : Hashes) (sealed : List Window) → HasSealed hashes sealed l.vault
    → l.text.items ≡ l.initial.text.items ++ flat_map (feed_line l.vault.mapping sealed l.date) (range_with_len 0 l.feed)
