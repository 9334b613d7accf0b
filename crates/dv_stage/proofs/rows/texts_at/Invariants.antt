use Rattle.dv_stage.proofs.Vocabulary.{fields_at, fields_of, map, norm_field, take, ◌≡◌}
use Rattle.dv_stage.proofs.rows.texts_at.Given as goal

abbrev pub invariant-loop-place : goal.invariant-loop-place
invariant-loop-place l = l.texts ≡ map norm_field (fields_at (fields_of l.row) (take l.place-index l.places))
