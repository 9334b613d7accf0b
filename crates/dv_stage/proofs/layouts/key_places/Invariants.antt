use Rattle.dv_stage.proofs.Vocabulary.{map, places_of, take, ◌≡◌}
use Rattle.dv_stage.proofs.layouts.key_places.Given as goal

abbrev pub invariant-loop-columns : goal.invariant-loop-columns
invariant-loop-columns l = l.places ≡ map (places_of l.names) (take l.columns-index l.keys)
