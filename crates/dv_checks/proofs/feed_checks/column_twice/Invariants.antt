use Rattle.dv_checks.proofs.Vocabulary.{drop, first_of, map, ◌≡◌}
use Rattle.dv_catalog.specs.Checks as spec
use Rattle.dv_checks.proofs.feed_checks.column_twice.Given as goal

abbrev pub invariant-loop-feed : goal.invariant-loop-feed
invariant-loop-feed l = first_of (map spec.column_again (drop l.feed-index l.outline.feeds)) ≡ spec.column_twice l.outline
