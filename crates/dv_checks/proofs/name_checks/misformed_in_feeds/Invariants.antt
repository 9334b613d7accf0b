use Rattle.dv_checks.proofs.Vocabulary.{[], drop, find, flat_map, has_name_form, not, ◌∷◌, ◌≡◌}
use Rattle.dv_checks.proofs.name_checks.misformed_in_feeds.Given as goal

abbrev pub invariant-loop-feed : goal.invariant-loop-feed
invariant-loop-feed l =
    find (λ name. not (has_name_form name)) (flat_map (λ feed. feed.name ∷ feed.source ∷ []) (drop l.feed-index l.feeds))
    ≡ find (λ name. not (has_name_form name)) (flat_map (λ feed. feed.name ∷ feed.source ∷ []) l.feeds)
