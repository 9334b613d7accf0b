use Rattle.dv_checks.proofs.Vocabulary.{map, ◌≡◌}
use Rattle.dv_catalog.specs.Mappings as spec
use Rattle.dv_checks.proofs.mappings.link_defs.Given as goal

abbrev pub invariant-loop-link : goal.invariant-loop-link
invariant-loop-link l = l.defs ≡ map (spec.link_def l.hubs) l.yielded
