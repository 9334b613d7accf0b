use Rattle.dv_checks.proofs.Vocabulary.{[], drop, take, ◌≡◌}
use Rattle.dv_catalog.specs.Checks as spec
use Rattle.dv_checks.proofs.name_checks.again_in_links.Given as goal

abbrev pub invariant-loop-i : goal.invariant-loop-i
invariant-loop-i l = spec.again_in_links (take l.i l.links) (drop l.i l.links) ≡ spec.again_in_links [] l.links
