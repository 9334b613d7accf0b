use Rattle.dv_desk_shown.proofs.Vocabulary.{chars, day_count, days_from_civil, days_of_months, days_of_years, digits, has_digits, has_form, has_marks, is_utf8, refl, seconds_if, serde_json_on_literals, stamp_in}
use Rattle.dv_desk_shown.proofs.posted_hold.Goals as goal

pub returns : goal.returns
unfolding serde_json_on_literals digits is_utf8 chars stamp_in has_form has_marks has_digits seconds_if days_from_civil day_count days_of_years days_of_months
returns c = assumption refl
