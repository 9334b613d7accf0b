use Rattle.dv_vault.proofs.Vocabulary.{map, take, ◌≡◌}
use Rattle.dv_vault.proofs.keeping.head.Given as goal

abbrev pub invariant-loop-staged : goal.invariant-loop-staged
invariant-loop-staged l = l.feeds ≡ map (λ staged. staged.feed) (take l.staged-index l.staged-items)
