use Rattle.dv_shown.proofs.Vocabulary.{chars, is_utf8, refl, toml_on_literals}
use Rattle.dv_shown.proofs.ByteLimits.{mapping_document-past, mapping_document-within}
use Rattle.dv_shown.proofs.file_examples.texts_hold.Goals as goal

pub returns : goal.returns
unfolding toml_on_literals is_utf8 chars
returns c =
    record { no_toml = refl; key_twice = refl; no_utf8 = refl; too_long = λ bytes h. rw (mapping_document-past bytes h) refl; long = mapping_document-within }
