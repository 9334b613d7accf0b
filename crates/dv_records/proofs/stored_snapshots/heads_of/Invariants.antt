use Rattle.dv_records.proofs.Vocabulary.{Snap, map, take, ◌≡◌}
use Rattle.dv_records.proofs.stored_snapshots.heads_of.Given as goal

-- the heads of the snapshots so far
abbrev pub invariant-loop-snap : goal.invariant-loop-snap
invariant-loop-snap l = l.heads ≡ map (λ (snap : Snap). snap.head) (take l.snap-index l.snaps)
