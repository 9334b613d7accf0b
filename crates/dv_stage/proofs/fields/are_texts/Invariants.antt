use Rattle.dv_stage.proofs.Vocabulary.{drop, fields_of, is_utf8, list_all, ◌≡◌}
use Rattle.dv_stage.proofs.fields.are_texts.Given as goal

abbrev pub invariant-loop-place : goal.invariant-loop-place
invariant-loop-place l = list_all is_utf8 (drop l.place (fields_of l.row)) ≡ list_all is_utf8 (fields_of l.row)
