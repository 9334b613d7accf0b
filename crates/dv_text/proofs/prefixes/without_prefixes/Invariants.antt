use Rattle.dv_text.proofs.Vocabulary.{map, ◌≡◌}
use Rattle.dv_text.proofs.prefixes.without_prefixes.Given as goal

abbrev pub invariant-loop-pair : goal.invariant-loop-pair
invariant-loop-pair g l = l.made.items ≡ map (λ pair. pair.item) l.yielded
