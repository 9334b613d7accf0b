use Rattle.dv_shown.proofs.Vocabulary.{day_count, days_from_civil, days_of_months, days_of_years, has_digits, has_form, has_marks, month_from, refl, seconds_if, stamp_in, stamp_text, year_from}
use Rattle.dv_shown.proofs.dates_hold.Goals as goal

pub returns : goal.returns
unfolding stamp_in stamp_text year_from month_from has_form has_marks has_digits seconds_if days_from_civil day_count days_of_years days_of_months
returns c = assumption refl
