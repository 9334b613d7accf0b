use Rattle.dv_mart.proofs.Vocabulary.{AreInOrder, any_content_read, map, take, told, told_rows, ◌≡◌}
use Rattle.dv_mart.proofs.hub_contents.contents_of.Given as goal

-- the contents of the first feeds
abbrev pub invariant-loop-feed : goal.invariant-loop-feed
invariant-loop-feed l =
    (map told_rows l.contents.items ≡ map (λ feed. (told feed, any_content_read l.vault.mapping l.vault.tables feed.place l.date)) (take l.feed-index l.feeds))
    × AreInOrder l.contents.items
