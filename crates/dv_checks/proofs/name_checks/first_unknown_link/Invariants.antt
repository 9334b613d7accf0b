use Rattle.dv_checks.proofs.Vocabulary.{drop, filter_map, find, not, ◌≡◌}
use Rattle.dv_catalog.specs.Checks as spec
use Rattle.dv_checks.proofs.name_checks.first_unknown_link.Given as goal

abbrev pub invariant-loop-feed : goal.invariant-loop-feed
invariant-loop-feed l =
    find (λ name. not (spec.is_link l.outline name)) (filter_map (λ feed. spec.parent_link feed.parent) (drop l.feed-index l.outline.feeds))
    ≡ find (λ name. not (spec.is_link l.outline name)) (filter_map (λ feed. spec.parent_link feed.parent) l.outline.feeds)
