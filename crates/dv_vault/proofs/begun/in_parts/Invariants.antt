use Rattle.dv_vault.proofs.Vocabulary.{opened_in, rest_in, ◌++◌, ◌≡◌}
use Rattle.dv_vault.proofs.begun.in_parts.Given as goal

-- the parts so far, and what is left of the second list
abbrev pub invariant-loop-opened : goal.invariant-loop-opened
invariant-loop-opened l = record {
  there : opened_in l.parts.items ≡ l.yielded;
  lacking : rest_in l.parts.items ++ l.rest ≡ l.fn.rest;
}
