use Rattle.dv_checks.proofs.Vocabulary.{map, ◌≡◌}
use Rattle.dv_catalog.specs.Mappings as spec
use Rattle.dv_checks.proofs.mappings.hub_defs.Given as goal

abbrev pub invariant-loop-hub : goal.invariant-loop-hub
invariant-loop-hub l = l.defs ≡ map spec.hub_def l.yielded
