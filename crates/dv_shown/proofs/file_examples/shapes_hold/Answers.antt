use Rattle.dv_shown.proofs.Vocabulary.{chars, digits, is_utf8, toml_on_literals}
use Rattle.dv_shown.proofs.file_examples.shapes_hold.Goals as goal

pub returns-clause-entry : goal.returns-clause-entry
unfolding toml_on_literals digits is_utf8 chars
returns-clause-entry c = search

pub returns-clause-first : goal.returns-clause-first
unfolding toml_on_literals digits is_utf8 chars
returns-clause-first c = search
