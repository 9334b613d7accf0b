use Rattle.dv_vault.proofs.Vocabulary.{batches_in, flat_map, ◌≡◌}
use Rattle.dv_vault.proofs.results.batches_of.Given as goal

-- what the results so far have
abbrev pub invariant-loop-given : goal.invariant-loop-given
invariant-loop-given l = l.batches.items ≡ flat_map batches_in l.yielded
