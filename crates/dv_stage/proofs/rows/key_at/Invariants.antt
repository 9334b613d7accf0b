use Rattle.dv_stage.proofs.Vocabulary.{fields_at, fields_of, map, norm_key, take, ◌≡◌}
use Rattle.dv_stage.proofs.rows.key_at.Given as goal

abbrev pub invariant-loop-place : goal.invariant-loop-place
invariant-loop-place l = l.parts ≡ map norm_key (fields_at (fields_of l.row) (take l.place-index l.places))
