use Rattle.dv_stage.proofs.Vocabulary.{fields_of, key_at, map, take, ◌≡◌}
use Rattle.dv_stage.proofs.rows.refs_at.Given as goal

abbrev pub invariant-loop-places : goal.invariant-loop-places
invariant-loop-places l = l.refs ≡ map (key_at (fields_of l.row)) (take l.places-index l.keys)
