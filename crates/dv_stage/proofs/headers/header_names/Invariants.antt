use Rattle.dv_stage.proofs.Vocabulary.{fields_of, map, norm_field, take, ◌≡◌}
use Rattle.dv_stage.proofs.headers.header_names.Given as goal

abbrev pub invariant-loop-place : goal.invariant-loop-place
invariant-loop-place l = l.names ≡ map norm_field (take l.place (fields_of l.header))
