use Rattle.dv_print.proofs.Vocabulary.{flat_map, hub_columns, take, ◌++◌, ◌≡◌}
use Rattle.dv_print.proofs.path_texts.push_hubs.Given as goal

abbrev pub invariant-loop-hub : goal.invariant-loop-hub
invariant-loop-hub l = l.header ≡ l.initial.header ++ flat_map (hub_columns l.fn.catalog l.fn.feed) (take l.hub-index l.hubs)
