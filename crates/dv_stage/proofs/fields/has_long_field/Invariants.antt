use Rattle.dv_stage.proofs.Vocabulary.{drop, fields_of, length, list_any, most_field_bytes, nat_lt, ◌≡◌}
use Rattle.dv_stage.proofs.fields.has_long_field.Given as goal

abbrev pub invariant-loop-place : goal.invariant-loop-place
invariant-loop-place l = list_any (λ field. nat_lt most_field_bytes (length field)) (drop l.place (fields_of l.row)) ≡ list_any (λ field. nat_lt most_field_bytes (length field)) (fields_of l.row)
