use Rattle.dv_records.proofs.Vocabulary.{drop, snapshot_rows, ◌≡◌}
use Rattle.dv_records.proofs.stored_snapshots.snapshot_page.Given as goal

-- no snapshot before is of the date
abbrev pub invariant-loop-snap : goal.invariant-loop-snap
invariant-loop-snap l = snapshot_rows l.date l.id (drop l.snap-index l.snaps) ≡ snapshot_rows l.date l.id l.snaps
