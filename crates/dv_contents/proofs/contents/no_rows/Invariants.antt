use Rattle.dv_contents.proofs.Vocabulary.{None, replicate, ◌≡◌, ◌≤◌}
use Rattle.dv_contents.proofs.contents.no_rows.Given as goal

-- as many so far
abbrev pub invariant-loop : goal.invariant-loop
invariant-loop l = (l.none.items ≡ replicate l.counter None) × (l.counter ≤ l.count)
