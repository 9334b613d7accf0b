use Rattle.dv_store_rules.proofs.Vocabulary.{Some, map, source_by, take, ◌≡◌}
use Rattle.dv_store_rules.proofs.frames.sources_of.Given as goal

-- the record sources so far
abbrev pub invariant-loop-feed : goal.invariant-loop-feed
invariant-loop-feed l = l.made ≡ map (λ feed. source_by (Some feed)) (take l.feed-index l.feeds)
