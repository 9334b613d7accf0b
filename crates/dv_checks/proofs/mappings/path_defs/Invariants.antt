use Rattle.dv_checks.proofs.Vocabulary.{map, ◌≡◌}
use Rattle.dv_catalog.specs.Mappings as spec
use Rattle.dv_checks.proofs.mappings.path_defs.Given as goal

abbrev pub invariant-loop-path : goal.invariant-loop-path
invariant-loop-path l = l.defs ≡ map (spec.path_def l.hubs l.feeds) l.yielded
