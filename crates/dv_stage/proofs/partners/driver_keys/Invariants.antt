use Rattle.dv_stage.proofs.Vocabulary.{filter_map, slice_get, take, ◌≡◌}
use Rattle.dv_stage.proofs.partners.driver_keys.Given as goal

abbrev pub invariant-loop-place : goal.invariant-loop-place
invariant-loop-place l = l.keys ≡ filter_map (slice_get l.row.refs) (take l.place-index l.place-items)
