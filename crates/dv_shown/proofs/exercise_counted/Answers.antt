use Rattle.dv_shown.proofs.Vocabulary.{chars, csv_on_literals, day_count, days_from_civil, days_of_months, days_of_years, digits, encode_utf8, exercised, has_digits, has_form, has_marks, is_utf8, refl, seconds_if, stamp_in, state_behind}
use Rattle.dv_shown.proofs.exercise_counted.Goals as goal

pub returns : goal.returns
unfolding digits csv_on_literals is_utf8 chars encode_utf8 exercised state_behind stamp_in has_form has_marks has_digits seconds_if days_from_civil day_count days_of_years days_of_months
returns c = record { first_date = refl; last_date = refl; of_one = refl; of_four = refl }
