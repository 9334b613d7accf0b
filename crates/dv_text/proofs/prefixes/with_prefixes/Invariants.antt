use Rattle.dv_text.proofs.Vocabulary.{fronted, map, ◌≡◌}
use Rattle.dv_text.proofs.prefixes.with_prefixes.Given as goal

abbrev pub invariant-loop-item : goal.invariant-loop-item
invariant-loop-item g l = l.made.items ≡ map (fronted g.T.Prefixed.number) l.yielded
