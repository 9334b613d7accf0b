use Rattle.dv_bridge.proofs.Vocabulary.{AreFirstWays, ◌+◌}
use Rattle.dv_bridge.proofs.path_bridges.path_ways.Given as goal

-- the ways along the first feeds
abbrev pub invariant-loop-place : goal.invariant-loop-place
invariant-loop-place l = AreFirstWays l.catalog l.links l.path (l.place + 1) l.ways
