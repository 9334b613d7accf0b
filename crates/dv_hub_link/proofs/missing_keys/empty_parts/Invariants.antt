use Rattle.dv_hub_link.proofs.Vocabulary.{[], replicate, ◌≡◌, ◌≤◌}
use Rattle.dv_hub_link.proofs.missing_keys.empty_parts.Given as goal

abbrev pub invariant-loop : goal.invariant-loop
invariant-loop l = (l.parts ≡ replicate l.counter []) × (l.counter ≤ l.count)
