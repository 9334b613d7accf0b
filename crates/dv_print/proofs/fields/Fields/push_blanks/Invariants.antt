use Rattle.dv_print.proofs.Vocabulary.{[], replicate, ◌++◌, ◌≡◌, ◌≤◌}
use Rattle.dv_print.proofs.fields.Fields.push_blanks.Given as goal

-- as many blanks so far
abbrev pub invariant-loop : goal.invariant-loop
invariant-loop l = (l.self ≡ l.initial.self ++ replicate l.counter []) × (l.counter ≤ l.count)
