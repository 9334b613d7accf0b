use Rattle.dv_window.proofs.Vocabulary.{any_content_read, map, take, ◌≡◌}
use Rattle.dv_window.proofs.plans.read_back.Given as goal

-- the feeds so far are read back
abbrev pub invariant-loop-feed : goal.invariant-loop-feed
invariant-loop-feed l =
    l.extracts
    ≡ map (λ feed. record { feed = feed; rows = any_content_read l.vault.mapping l.vault.tables feed l.head.load }) (take l.feed-index l.feed-items)
