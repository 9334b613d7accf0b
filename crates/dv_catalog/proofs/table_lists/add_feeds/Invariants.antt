use Rattle.dv_catalog.proofs.Vocabulary.{drop, feed_tables, ◌++◌, ◌≡◌}
use Rattle.dv_catalog.proofs.table_lists.add_feeds.Given as goal

abbrev pub invariant-loop-n : goal.invariant-loop-n
invariant-loop-n l = l.tables ++ feed_tables l.n (drop l.n l.feeds) ≡ l.initial.tables ++ feed_tables 0 l.feeds
