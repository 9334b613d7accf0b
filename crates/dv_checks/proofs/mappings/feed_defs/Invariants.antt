use Rattle.dv_checks.proofs.Vocabulary.{map, ◌≡◌}
use Rattle.dv_catalog.specs.Mappings as spec
use Rattle.dv_checks.proofs.mappings.feed_defs.Given as goal

abbrev pub invariant-loop-feed : goal.invariant-loop-feed
invariant-loop-feed l = l.defs ≡ map (spec.feed_def l.hubs l.links) l.yielded
