use Rattle.dv_checks.proofs.Vocabulary.{bytes_eq, drop, filter_map, find, list_any, not, ◌≡◌}
use Rattle.dv_catalog.specs.Checks as spec
use Rattle.dv_checks.proofs.name_checks.unknown_in_feeds.Given as goal

abbrev pub invariant-loop-feed : goal.invariant-loop-feed
invariant-loop-feed l =
    find (λ name. not (list_any (λ hub. bytes_eq hub.name name) l.hubs)) (filter_map (λ feed. spec.parent_hub feed.parent) (drop l.feed-index l.feeds))
    ≡ find (λ name. not (list_any (λ hub. bytes_eq hub.name name) l.hubs)) (filter_map (λ feed. spec.parent_hub feed.parent) l.feeds)
