use Rattle.dv_mart.proofs.Vocabulary.{◌≡◌}
use Rattle.dv_mart.proofs.path_keys.links_alone.Given as goal

-- the first links
abbrev pub invariant-loop-front : goal.invariant-loop-front
invariant-loop-front l = l.links ≡ l.yielded
