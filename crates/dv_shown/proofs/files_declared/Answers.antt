use Rattle.dv_shown.proofs.Vocabulary.{chars, digits, is_utf8, toml_on_literals}
use Rattle.dv_shown.proofs.files_declared.Goals as goal

pub returns : goal.returns
unfolding toml_on_literals digits is_utf8 chars
returns c = search
