use Rattle.dv_mart.proofs.Vocabulary.{[], replicate, ◌≡◌, ◌≤◌}
use Rattle.dv_mart.proofs.hub_columns.blanks.Given as goal

abbrev pub invariant-loop : goal.invariant-loop
invariant-loop l = (l.made ≡ replicate l.counter []) × (l.counter ≤ l.count)
