use Rattle.dv_print.proofs.Vocabulary.{hub_name, map, slice_get, take, ◌++◌, ◌≡◌}
use Rattle.dv_print.proofs.table_texts.push_hub_names.Given as goal

abbrev pub invariant-loop-hub : goal.invariant-loop-hub
invariant-loop-hub l = l.header ≡ l.initial.header ++ map (λ hub. hub_name (slice_get l.catalog.hubs hub)) (take l.hub-index l.hubs)
