use Rattle.dv_shown.proofs.Vocabulary.{chars, day_count, days_from_civil, days_of_months, days_of_years, digits, has_digits, has_form, has_marks, is_utf8, seconds_if, stamp_in, toml_on_literals}
use Rattle.dv_shown.proofs.ByteLimits.{manifest_in-past, manifest_in-within}
use Rattle.dv_shown.proofs.manifests_read.Goals as goal

pub returns : goal.returns
unfolding toml_on_literals digits is_utf8 chars stamp_in has_form has_marks has_digits seconds_if days_from_civil day_count days_of_years days_of_months
returns c = search (manifest_in-past, manifest_in-within)
