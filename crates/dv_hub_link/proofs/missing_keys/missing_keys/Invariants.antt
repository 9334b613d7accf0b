use Rattle.dv_hub_link.proofs.Vocabulary.{map, missing_key, take, ◌≡◌}
use Rattle.dv_hub_link.proofs.missing_keys.missing_keys.Given as goal

abbrev pub invariant-loop-hub : goal.invariant-loop-hub
invariant-loop-hub l = l.keys ≡ map (missing_key l.catalog) (take l.hub-index l.hubs)
