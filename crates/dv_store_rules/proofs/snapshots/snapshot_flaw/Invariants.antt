use Rattle.dv_store_rules.proofs.Vocabulary.{AreClear, heads_weight, most_snapshot_weight, snapshot_rule, take, ◌≡◌, ◌≤◌}
use Rattle.dv_store_rules.proofs.snapshots.snapshot_flaw.Given as goal

-- no head so far breaks the rule, and so many of them weigh this
abbrev pub invariant-loop-place : goal.invariant-loop-place
invariant-loop-place l =
    AreClear (snapshot_rule l.windows) l.heads l.place × (l.weight ≡ heads_weight (take l.place l.heads)) × (l.weight ≤ most_snapshot_weight)
