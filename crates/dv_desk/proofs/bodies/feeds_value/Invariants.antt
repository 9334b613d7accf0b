use Rattle.dv_desk.proofs.Vocabulary.{map, take, view, ◌≡◌}
use Rattle.dv_desk.specs.Bodies as spec
use Rattle.dv_desk.proofs.bodies.feeds_value.Given as goal

-- the names of the feeds so far
abbrev pub invariant-loop-feed : goal.invariant-loop-feed
invariant-loop-feed l = map view l.names.items ≡ map (spec.feed_data l.catalog) (take l.feed-index l.feeds)
