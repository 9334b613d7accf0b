use Rattle.dv_print.proofs.Vocabulary.{All, HubFeed, Some, map, slice_get, told, ◌≡◌}
use Rattle.dv_print.proofs.HubFeeds.{feeds_among}
use Rattle.dv_print.proofs.hub_feeds.feeds_of.Given as goal

-- the hub's feeds among those so far, each at its place
abbrev pub invariant-loop-place : goal.invariant-loop-place
invariant-loop-place l =
    (map told l.found.items ≡ feeds_among l.fn.catalog l.fn.hub l.place)
    × All (λ (feed : HubFeed). slice_get l.fn.catalog.feeds feed.place ≡ Some feed.definition.now) l.found.items
