use Rattle.dv_mart.proofs.Vocabulary.{keyed_links, map, take, ◌≡◌}
use Rattle.dv_mart.proofs.path_keys.all_sorted_links.Given as goal

-- the links of the first feeds
abbrev pub invariant-loop-feed : goal.invariant-loop-feed
invariant-loop-feed l = l.all.items ≡ map (keyed_links l.vault.mapping l.vault.tables l.date) (take l.feed-index l.feeds)
