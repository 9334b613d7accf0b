use Rattle.dv_checks.proofs.Vocabulary.{drop, ◌≡◌}
use Rattle.dv_catalog.specs.Checks as spec
use Rattle.dv_checks.proofs.path_checks.are_joined.Given as goal

abbrev pub invariant-loop-i : goal.invariant-loop-i
invariant-loop-i l = spec.are_joined l.outline (drop l.i l.feeds) (drop l.i l.via) ≡ spec.are_joined l.outline l.feeds l.via
