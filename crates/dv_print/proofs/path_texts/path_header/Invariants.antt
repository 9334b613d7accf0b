use Rattle.dv_print.proofs.Vocabulary.{flat_map, step_columns, take, ◌≡◌}
use Rattle.dv_print.proofs.path_texts.path_header.Given as goal

abbrev pub invariant-loop-feed : goal.invariant-loop-feed
invariant-loop-feed l = l.header ≡ flat_map (step_columns l.catalog) (take l.feed-index l.feeds)
