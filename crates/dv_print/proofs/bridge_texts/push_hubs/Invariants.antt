use Rattle.dv_print.proofs.Vocabulary.{dotted, hub_name, map, slice_get, take, ◌++◌, ◌≡◌}
use Rattle.dv_print.proofs.bridge_texts.push_hubs.Given as goal

abbrev pub invariant-loop-hub : goal.invariant-loop-hub
invariant-loop-hub l = l.header ≡ l.initial.header ++ map (λ hub. dotted l.fn.feed (hub_name (slice_get l.fn.catalog.hubs hub))) (take l.hub-index l.hubs)
